-- Which hashes a question asks for, and where they are kept.
use Rattle.std.proofs.Common.{◌≡◌, ◌⊎◌, ℕ, zero, suc, List, [], ◌∷◌, length, map, refl, sym, ap, ◌∙◌, subst, inl, inr, ⊎_elim, arith}
use Rattle.std.specs.Prelude.{MatchOption, None, Option, Some, slice_get}
use Rattle.dnsv_names.specs.Tree.AncestorLaws.{rightmost_same, wildcard_respects}
use Rattle.dnsv_names.specs.Name.{IsAtOrBelow, Labels, rightmost}
use Rattle.dnsv_names.specs.Order.{IsBelow}
use Rattle.dnsv_names.specs.Tree.{wildcard_of}
use Rattle.dnsv_names.specs.Tree.TreeLaws.{at_or_below_length, below_length}
use Rattle.dnsv_records.specs.declared.nsec3.Nsec3Parameters.{Nsec3Parameters}
use Rattle.dnsv_canonical.proofs.CanonicalLemmas.{Contains-from_member, IsMember, IsMember-from_contains}
use Rattle.dnsv_canonical.specs.Rrsets.{ReceivedRrset}
use Rattle.dnsv_zones.specs.chains.HashedNames.{AreHashes}
use Rattle.dnsv_proof_forms.specs.KeptHashes.{AreKeptHashes}
use Rattle.dnsv_zones.specs.chains.Nsec3Chain.{IsAsked, NameHash, Parameters}
use Rattle.dnsv_zones.specs.chains.Nsec3Chain.IsAsked.{itself, wildcard}
use Rattle.dnsv_proof_forms.specs.QuestionHashes.{AreUsed}
use Rattle.dnsv_zones.specs.chains.Rdata.{parameters_of}
use Rattle.dnsv_proof_forms.specs.declared.records.name_hashes.NameHashes.{NameHashes}

-- ---- names

abbrev pub IsWildcardAbove : Labels → Labels → Type 0
IsWildcardAbove question name = (above : Labels) × IsBelow question above × (name ≡ wildcard_of above)

pub asked_cases : {question name : Labels} → IsAsked question name → IsAtOrBelow question name ⊎ IsWildcardAbove question name
asked_cases (itself above at) = inl at
asked_cases (wildcard above below) = inr (above, below, refl)

pub asked_wildcard : (question name : Labels) → IsWildcardAbove question name → IsAsked question name
asked_wildcard question name is = subst (λ n. IsAsked question n) (sym is.2) (wildcard is.0 is.1)

pub never_asked : (question name : Labels) → ¬ IsAtOrBelow question name → ¬ IsWildcardAbove question name → ¬ IsAsked question name
never_asked question name above wild asked =
    ⊎_elim (λ (at : IsAtOrBelow question name). above at) (λ (is : IsWildcardAbove question name). wild is) (asked_cases asked)

-- ---- the places of hashes

pub hash_above : (hash : NameHash) (question name : Labels) (above wildcards : List (List ℕ)) → AreHashes hash question above wildcards
    → IsAtOrBelow question name → slice_get above (length name) ≡ Some (hash.of name)
hash_above hash question name above wildcards are at =
    are.each_above.each (length name) (omega (arith, at_or_below_length question name at))
    ∙ ap Some (hash.respects_case (rightmost question (length name)) name (rightmost_same question name at))

pub hash_of_wildcard : (hash : NameHash) (question above : Labels) (hashes wildcards : List (List ℕ)) → AreHashes hash question hashes wildcards
    → IsBelow question above → slice_get wildcards (length above) ≡ Some (hash.of (wildcard_of above))
hash_of_wildcard hash question above hashes wildcards are below =
    are.each_wildcard.each (length above) (below_length question above below)
    ∙ ap Some (hash.respects_case (wildcard_of (rightmost question (length above))) (wildcard_of above)
    (wildcard_respects (rightmost question (length above)) above (rightmost_same question above below.0)))

-- ---- the parameters of sets

set_of : (sets : List NameHashes) (each : Nsec3Parameters) → IsMember each (map (λ (set : NameHashes). set.parameters.now) sets)
    → (k : ℕ) × (set : NameHashes) × (slice_get sets k ≡ Some set) × (set.parameters.now ≡ each)
set_of [] each there = absurd there
set_of (set ∷ sets) each (inl is) = (0, set, refl, sym is)
set_of (set ∷ sets) each (inr later) = let found = set_of sets each later in (suc found.0, found.1, found.2, found.3)

member_of : (sets : List NameHashes) (k : ℕ) (set : NameHashes) → slice_get sets k ≡ Some set
    → IsMember set.parameters.now (map (λ (each : NameHashes). each.parameters.now) sets)
member_of [] k set there = cc
member_of (first ∷ sets) zero set there = let is : set ≡ first = cc in inl (ap (λ (each : NameHashes). each.parameters.now) is)
member_of (first ∷ sets) (suc k) set there = inr (member_of sets k set there)

-- a set's parameters are those of a usable record
pub used_by_set : (rrsets : List ReceivedRrset) (name : Labels) (sets : List NameHashes) (parameters : Parameters)
    → AreKeptHashes rrsets name sets → (k : ℕ) (set : NameHashes) → slice_get sets k ≡ Some set
    → parameters_of set.parameters.now ≡ parameters → AreUsed rrsets parameters
used_by_set rrsets name sets parameters kept k set there same = (
  set.parameters.now,
  (kept.members set.parameters.now).0 (Contains-from_member (map (λ (each : NameHashes). each.parameters.now) sets) set.parameters.now (member_of sets k set there)),
  same,
)

-- where no set has them, no usable record does
pub not_used : (rrsets : List ReceivedRrset) (name : Labels) (sets : List NameHashes) (parameters : Parameters)
    → AreKeptHashes rrsets name sets
    → ((k : ℕ) (set : NameHashes) → slice_get sets k ≡ Some set → ¬ (parameters_of set.parameters.now ≡ parameters))
    → ¬ AreUsed rrsets parameters
not_used rrsets name sets parameters kept none used =
    let found = set_of sets used.0 (IsMember-from_contains (map (λ (each : NameHashes). each.parameters.now) sets) used.0 ((kept.members used.0).1 used.1)) in
    none found.0 found.1 found.2 (ap parameters_of found.3 ∙ used.2)

-- an asked hash with parameters that are used
pub found_hash : (Used : Type 0) (hash : Parameters → NameHash) (question name : Labels) (its parameters : Parameters) (found : Option (List ℕ))
    → Used → its ≡ parameters
    → MatchOption found (¬ IsAsked question name) (λ octets. IsAsked question name × (octets ≡ (hash its).of name))
    → MatchOption found (¬ (Used × IsAsked question name))
    (λ octets. (Used × IsAsked question name) × (octets ≡ (hash parameters).of name))
found_hash Used hash question name its parameters None used same none = λ both. none both.1
found_hash Used hash question name its parameters (Some octets) used same some =
    ((used, some.0), some.1 ∙ ap (λ each. (hash each).of name) same)
