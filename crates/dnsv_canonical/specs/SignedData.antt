-- What a signature signs (RFC 4034 3.1.8.1, 6.2, 6.3; RFC 4035 5.3.2). Numbers are big-endian.
use Rattle.std.specs.Prelude.{◌≡◌, ℕ, ◌-◌, ◌<◌, ◌≤◌, nat_lt, if◌then◌else◌, List, [], ◌∷◌, ◌++◌, length, map, Option, Some, None}
use Rattle.std.specs.Int.{w16, w32, to_be_bytes}
use Rattle.std.specs.List.{flat_map}
use Rattle.dnsv_names.specs.Name.{Labels, wire, lower_case, rightmost}
use Rattle.dnsv_names.specs.Tree.{wildcard_of, is_wildcard}
use Rattle.dnsv_canonical.specs.Canonical.{IsCanonical}
use Rattle.dnsv_canonical.specs.CanonicalRdata.{canonical_form}
use Rattle.dnsv_records.specs.declared.rrsig.Rrsig.{Rrsig}

-- the RRSIG's RDATA without the signature, its signer in lower case (RFC 4034 3.1, 3.1.8.1, 6.2)
abbrev pub signed_front : Rrsig → List ℕ
signed_front rrsig =
    to_be_bytes w16 rrsig.type_covered.0 ++ rrsig.algorithm.0 ∷ rrsig.labels ∷ []
    ++ to_be_bytes w32 rrsig.original_ttl.0
    ++ to_be_bytes w32 rrsig.expiration.0 ++ to_be_bytes w32 rrsig.inception.0 ++ to_be_bytes w16 rrsig.key_tag.0
    ++ wire (lower_case rrsig.signer)

-- how many labels a signature over the name counts: neither the root's nor a leftmost `*` (RFC 4034 3.1.3)
abbrev pub signed_label_count : Labels → ℕ
signed_label_count name = if is_wildcard name then length name - 1 else length name

-- the signature is expanded over the owner: a wildcard with fewer labels was signed (RFC 4035 5.3.2)
abbrev pub IsExpanded : Labels → Rrsig → Type 0
IsExpanded owner rrsig = rrsig.labels < signed_label_count owner

-- the owner as it is signed: in lower case, and where Labels is below the owner's count, `*` and the owner's
-- rightmost Labels labels in its place (RFC 4035 5.3.2)
abbrev pub signed_owner : Labels → ℕ → Labels
signed_owner owner labels =
    lower_case (if nat_lt labels (signed_label_count owner) then wildcard_of (rightmost owner labels) else owner)

-- a record as it is signed: owner, type, class IN, original TTL, length of the RDATA, RDATA (RFC 4034 3.1.8.1)
abbrev pub signed_record : Labels → ℕ → ℕ → List ℕ → List ℕ
signed_record owner rtype ttl rdata =
    wire owner ++ to_be_bytes w16 rtype ++ to_be_bytes w16 1 ++ to_be_bytes w32 ttl
    ++ to_be_bytes w16 (length rdata) ++ rdata

-- The answer is what the signature signs over the RDATA received at the owner: nothing where Labels is above the
-- owner's count, and else the RDATA of the signature and each record of the canonical list. Each RDATA is brought to
-- its canonical form before they are put in order, so that two that differ in the case of such a name alone are one
-- (RFC 4034 6.2, 6.3).
abbrev pub IsSignedData : Labels → ℕ → List (List ℕ) → Rrsig → Option (List ℕ) → Type 0
IsSignedData owner rtype received rrsig None = signed_label_count owner < rrsig.labels
IsSignedData owner rtype received rrsig (Some octets) =
    (rrsig.labels ≤ signed_label_count owner)
    × (canonical : List (List ℕ)) × IsCanonical (map (canonical_form rtype) received) canonical
    × (octets ≡ signed_front rrsig
    ++ flat_map (signed_record (signed_owner owner rrsig.labels) rtype rrsig.original_ttl.0) canonical)
