-- RDATA in canonical form: the names in it are in lower case (RFC 4034 6.2, RFC 6840 5.1).
--
-- `canonical_form` is said of octets, so that it holds of any RDATA. What it does to RDATA that is laid out as its
-- type asks is said of names, by the law `canonical_form_lowers_the_names`.
use Rattle.std.specs.Prelude.{ℕ, ◌-◌, ◌==◌, if◌then◌else◌, List, [], ◌∷◌, ◌++◌, length, take, drop, map, Option, Some, None, unwrap_or}
use Rattle.std.specs.Char.{to_ascii_lowercase}
use Rattle.std.specs.List.{list_any}
use Rattle.dnsv_message.specs.Parts.{head_size, tail_size}

-- ---- names in RDATA

-- The types that RFC 4034 6.2 lists, in its order. RFC 6840 5.1 takes two from them: HINFO, which has no names, and
-- NSEC, whose next name keeps its spelling.
abbrev pub listed_types : List ℕ
listed_types =
    2 ∷ 3 ∷ 4 ∷ 5 ∷ 6 ∷ 7 ∷ 8 ∷ 9 ∷ 12 ∷ 14 ∷ 15 ∷ 17 ∷ 18 ∷ 21 ∷ 24 ∷ 26 ∷ 30 ∷ 35 ∷ 36 ∷ 33 ∷ 39 ∷ 38 ∷ 46 ∷ []

-- those of them that form RRsets: NS, CNAME, SOA, PTR, MX, SRV and DNAME
abbrev pub lowered_types : List ℕ
lowered_types = 2 ∷ 5 ∷ 6 ∷ 12 ∷ 15 ∷ 33 ∷ 39 ∷ []

-- ---- canonical form

-- how many octets stand before and behind the names, where canonical form has them in lower case
abbrev pub octets_around_names : ℕ → Option (ℕ × ℕ)
octets_around_names rtype =
    if list_any (λ other. other == rtype) lowered_types
    then Some (head_size rtype 1, unwrap_or (tail_size rtype 1) 0)
    else None

-- the octets in lower case but for the last `behind`
abbrev pub lowered_but_last : ℕ → List ℕ → List ℕ
lowered_but_last behind octets =
    map to_ascii_lowercase (take (length octets - behind) octets) ++ drop (length octets - behind) octets

-- the RDATA with the octets of its names in lower case, by how many octets stand before and behind them: a length
-- octet is at most 63 and so is no letter
abbrev pub names_lowered : Option (ℕ × ℕ) → List ℕ → List ℕ
names_lowered None rdata = rdata
names_lowered (Some around) rdata = take around.0 rdata ++ lowered_but_last around.1 (drop around.0 rdata)

-- the RDATA of the type in canonical form
abbrev pub canonical_form : ℕ → List ℕ → List ℕ
canonical_form rtype rdata = names_lowered (octets_around_names rtype) rdata
