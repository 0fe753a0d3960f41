-- The order of what a verifier is asked.
use Rattle.std.specs.Ordering.{nat_cmp, ordering_then}
use Rattle.std.specs.declared.cmp.Ordering.{Ordering}
use Rattle.dnsv_names.specs.Octets.{octets_cmp}
use Rattle.dnsv_verifier.specs.declared.entry.Entry.{Entry}

-- by algorithm, key, signed data and signature, octets as unsigned numbers, a missing one first
abbrev pub entry_cmp : Entry → Entry → Ordering
entry_cmp a b =
    ordering_then
    (ordering_then
    (ordering_then (nat_cmp a.algorithm.0 b.algorithm.0) (octets_cmp a.key b.key))
    (octets_cmp a.signed_data b.signed_data))
    (octets_cmp a.signature b.signature)
