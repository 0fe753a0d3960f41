-- How the RDATA of each type is laid out: some octets, then some names, then some octets more.
use Rattle.std.specs.Prelude.{ℕ, ◌==◌, true, false, Option, Some, None, if◌then◌else◌}
use Rattle.dnsv_message.specs.declared.rdata.Layout.{Layout}

-- this many octets, then any number more or none
abbrev pub octets_alone : ℕ → Option ℕ → Layout
octets_alone head tail = record { head = head; names = 0; pointers = false; tail = tail }

-- this many octets, then names that may be compressed (RFC 3597 4), then this many octets
abbrev pub compressed_names : ℕ → ℕ → ℕ → Layout
compressed_names head names tail = record { head = head; names = names; pointers = true; tail = Some tail }

-- this many octets, then a name that is not compressed (RFC 6672 2.5, RFC 4034 3.1.7 and 4.1.1), then this many
-- octets, or any number
abbrev pub plain_name : ℕ → Option ℕ → Layout
plain_name head tail = record { head = head; names = 1; pointers = false; tail = tail }

-- RDATA that is octets as they are
abbrev pub any_octets : Layout
any_octets = octets_alone 0 None

-- Of class IN: A (RFC 1035 3.4.1), NS (3.3.11), CNAME (3.3.1), SOA (3.3.13), PTR (3.3.12), MX (3.3.9),
-- AAAA (RFC 3596 2.2), SRV (RFC 2782), DNAME (RFC 6672 2.5), RRSIG (RFC 4034 3.1) and NSEC (RFC 4034 4.1).
abbrev pub internet_layout : ℕ → Layout
internet_layout rtype =
    if rtype == 1 then octets_alone 4 (Some 0)
    else if rtype == 2 then compressed_names 0 1 0
    else if rtype == 5 then compressed_names 0 1 0
    else if rtype == 6 then compressed_names 0 2 20
    else if rtype == 12 then compressed_names 0 1 0
    else if rtype == 15 then compressed_names 2 1 0
    else if rtype == 28 then octets_alone 16 (Some 0)
    else if rtype == 33 then compressed_names 6 1 0
    else if rtype == 39 then plain_name 0 (Some 0)
    else if rtype == 46 then plain_name 18 None
    else if rtype == 47 then plain_name 0 None
    else any_octets

-- the layout of a type's RDATA in a class
abbrev pub layout_of : ℕ → ℕ → Layout
layout_of rtype class = if class == 1 then internet_layout rtype else any_octets
