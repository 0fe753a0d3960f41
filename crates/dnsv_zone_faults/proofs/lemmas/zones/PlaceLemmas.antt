-- Keys by their places in a zone, and those in one of its DNSKEY RRsets.
use Rattle.std.proofs.Common.{◌≡◌, ◌⊎◌, ℕ, zero, suc, ◌-◌, ◌<◌, inl, inr, ⊎_elim, List, [], ◌∷◌, Some, length, refl, sym, ap, ◌∙◌, subst, arith}
use Rattle.std.proofs.lemmas.List.Elements.{Contains-append_left, Contains-append_right}
use Rattle.std.proofs.lemmas.Option.{get_or_from_slice_get, slice_get-get_or, slice_get_within}
use Rattle.std.specs.Prelude.{Contains, slice_get}
use Rattle.std.specs.List.Sorted.{IsStrictlyIncreasing}
use Rattle.dnsv_names.specs.Name.{Labels}
use Rattle.dnsv_records.specs.Dnskey.{IsDnskey}
use Rattle.dnsv_records.proofs.OneRecord.{one_dnskey}
use Rattle.dnsv_canonical.specs.Evidence.{IsDistinct}
use Rattle.dnsv_canonical.specs.Index.{numbers_at}
use Rattle.dnsv_canonical.specs.Rrsets.{IsNumbered, ReceivedRrset}
use Rattle.dnsv_canonical.proofs.OrderLemmas.{each_of}
use Rattle.dnsv_chain.specs.Trusted.{IsKeyOf}
use Rattle.dnsv_chain.proofs.NumberedLemmas.{numbers_are}
use Rattle.dnsv_verifier.specs.Admissible.{DnskeyRecord}
use Rattle.dnsv_zone_keys.specs.Keys.{AreStanding, AreZoneKeys, IsKeyPlaced}
use Rattle.dnsv_zone_keys.specs.Keys.Index.{Placed}
use Rattle.dnsv_zone_faults.specs.Dnskeys.DnskeySearch.{AreKeyRecords, AreKeysIn, IsKeyIn, IsSetOf}
use Rattle.dnsv_zone_faults.specs.Dnskeys.PlaceSearch.{HasOther}
use Rattle.dnsv_zone_keys.proofs.lemmas.ZoneKeyLemmas.{one_zone_keys}
use Rattle.dnsv_canonical.proofs.NumberLemmas.{one_numbered}
use Rattle.dnsv_rrsets.proofs.LawLemmas.{first_appearances_members, first_appearances_once}

-- what stands at a place is one of the list
pub contains_at : {X : Type 0} (xs : List X) (i : ℕ) (x : X) → slice_get xs i ≡ Some x → Contains xs x
contains_at xs i x at = (i, slice_get_within xs i x at, get_or_from_slice_get xs i x x at)

-- and one of the list stands at a place
pub at_some : {X : Type 0} (xs : List X) (x : X) → Contains xs x → (i : ℕ) × (slice_get xs i ≡ Some x)
at_some xs x there = (there.0, slice_get-get_or xs there.0 x there.1 ∙ ap (λ y. Some y) there.2)

-- ---- one place

at_once : (xs : List (List ℕ)) (i j : ℕ) (x : List ℕ) → IsDistinct xs → slice_get xs i ≡ Some x → slice_get xs j ≡ Some x → i ≡ j
at_once [] i j x once first second = absurd (cc first)
at_once (y ∷ xs) zero zero x once first second = refl
at_once (y ∷ xs) zero (suc j) x once first second =
    let same : y ≡ x = cc first in
    absurd (once.0 (subst (λ (z : List ℕ). Contains xs z) (sym same) (contains_at xs j x second)))
at_once (y ∷ xs) (suc i) zero x once first second =
    let same : y ≡ x = cc second in
    absurd (once.0 (subst (λ (z : List ℕ). Contains xs z) (sym same) (contains_at xs i x first)))
at_once (y ∷ xs) (suc i) (suc j) x once first second = ap suc (at_once xs i j x once.1 first second)

-- RDATA is that of a key at one place
pub one_place : (rrsets : List ReceivedRrset) (zone : Labels) (keys : List (List ℕ)) (p q : ℕ) (rdata : List ℕ) → AreZoneKeys rrsets zone keys
    → slice_get keys p ≡ Some rdata → slice_get keys q ≡ Some rdata → p ≡ q
one_place rrsets zone keys p q rdata are first second =
    at_once keys p q rdata (subst (λ (each : List (List ℕ)). IsDistinct each) (sym are.once) (first_appearances_once are.standing)) first second

pub placed_once : (rrsets : List ReceivedRrset) (zone : Labels) (p q : ℕ) (a b : DnskeyRecord) → IsKeyPlaced rrsets zone p a → IsKeyPlaced rrsets zone q b
    → a.rdata ≡ b.rdata → p ≡ q
placed_once rrsets zone p q a b first second same =
    let keys = one_zone_keys rrsets zone first.keys second.keys first.are second.are in
    one_place rrsets zone second.keys p q b.rdata second.are
    (subst (λ (each : List (List ℕ)). slice_get each p ≡ Some b.rdata) keys (first.at ∙ ap (λ (r : List ℕ). Some r) same)) second.at

-- a place is that of one RDATA
pub placed_rdata : (rrsets : List ReceivedRrset) (zone : Labels) (p : ℕ) (a b : DnskeyRecord) → IsKeyPlaced rrsets zone p a → IsKeyPlaced rrsets zone p b
    → a.rdata ≡ b.rdata
placed_rdata rrsets zone p a b first second =
    let keys = one_zone_keys rrsets zone first.keys second.keys first.are second.are in
    let at : slice_get second.keys p ≡ Some a.rdata = subst (λ (each : List (List ℕ)). slice_get each p ≡ Some a.rdata) keys first.at in
    let both : Some a.rdata ≡ Some b.rdata = sym at ∙ second.at in
    cc both

-- ---- records of an RRset

pub read_same : (a b : DnskeyRecord) → a.rdata ≡ b.rdata → IsDnskey a.rdata a.dnskey → IsDnskey b.rdata b.dnskey → a.dnskey ≡ b.dnskey
read_same a b same first second = one_dnskey b.rdata a.dnskey b.dnskey (subst (λ (octets : List ℕ). IsDnskey octets a.dnskey) same first) second

pub same_record : (set : ReceivedRrset) (a b : DnskeyRecord) → IsKeyOf set a → IsKeyOf set b → a.rdata ≡ b.rdata → a ≡ b
same_record set a b first second same =
    let owner : a.owner ≡ b.owner = first.owner ∙ sym second.owner in
    let dnskey = read_same a b same first.is second.is in
    λ i. record { owner = owner i; rdata = same i; dnskey = dnskey i }

module _ (rrsets : List ReceivedRrset) (zone : Labels) (set : ReceivedRrset) (keys : List Placed) (are : AreKeysIn rrsets zone set keys) where
  pub key_in : (placed : Placed) → Contains keys placed → IsKeyIn rrsets zone set placed
  key_in placed there = each_of (IsKeyIn rrsets zone set) keys placed are.each there

  pub key_records : AreKeyRecords keys
  key_records a b here there same =
      let first = key_in a here in
      let second = key_in b there in
      let place : a.place ≡ b.place = placed_once rrsets zone a.place b.place a.key b.key first.at second.at same in
      let key = same_record set a.key b.key first.stands second.stands same in
      λ i. record { place = place i; key = key i }

-- ---- the records of a DNSKEY RRset are keys of its zone

stands_there : (rrsets : List ReceivedRrset) (numbers : List ℕ) (standing : List (List ℕ)) (k : ℕ) (set : ReceivedRrset) (rdata : List ℕ)
    → AreStanding rrsets numbers standing → Contains numbers k → IsNumbered rrsets k set → Contains set.rdata rdata → Contains standing rdata
stands_there rrsets [] standing k set rdata stand there numbered holds = absurd (let within = there.1 in omega (arith, within))
stands_there rrsets (n ∷ numbers) standing k set rdata stand (zero, within, at) numbered holds =
    let its = stand.2 in
    let number : n ≡ k = at in
    let same : its.rrset ≡ set = one_numbered rrsets k its.rrset set (subst (λ (m : ℕ). IsNumbered rrsets m its.rrset) number its.numbered) numbered in
    let here = (its.canonical.members rdata).1 (subst (λ (r : ReceivedRrset). Contains r.rdata rdata) (sym same) holds) in
    subst (λ (all : List (List ℕ)). Contains all rdata) (sym stand.4) (Contains-append_left stand.0 stand.1 rdata here)
stands_there rrsets (n ∷ numbers) standing k set rdata stand (suc i, within, at) numbered holds =
    let rest = stands_there rrsets numbers stand.1 k set rdata stand.3 (i, omega (arith, within), at) numbered holds in
    subst (λ (all : List (List ℕ)). Contains all rdata) (sym stand.4) (Contains-append_right stand.0 stand.1 rdata rest)

pub set_number : (rrsets : List ReceivedRrset) (zone : Labels) (k : ℕ) (set : ReceivedRrset) → IsSetOf rrsets zone k set → Contains (numbers_at rrsets zone 48) k
set_number rrsets zone k set is =
    (numbers_are rrsets zone 48 (numbers_at rrsets zone 48) refl).all k (record { rrset = set; is_rrset = is.numbered; owner = is.owner; same_type = is.rtype })

pub record_placed : (rrsets : List ReceivedRrset) (zone : Labels) (keys : List (List ℕ)) (k : ℕ) (set : ReceivedRrset) (rdata : List ℕ) → AreZoneKeys rrsets zone keys
    → IsSetOf rrsets zone k set → Contains set.rdata rdata → (place : ℕ) × (slice_get keys place ≡ Some rdata)
record_placed rrsets zone keys k set rdata are is holds =
    let stand = stands_there rrsets (numbers_at rrsets zone 48) are.standing k set rdata are.stand (set_number rrsets zone k set is) is.numbered holds in
    let there : Contains keys rdata = subst (λ (each : List (List ℕ)). Contains each rdata) (sym are.once) ((first_appearances_members are.standing rdata).1 stand) in
    at_some keys rdata there

-- ---- another place

pub two_places : (places : List ℕ) (place : ℕ) → IsStrictlyIncreasing places → 1 < length places → HasOther places place
two_places [] place rising long = absurd (omega (arith, long))
two_places (a ∷ []) place rising long = absurd (omega (arith, long))
two_places (a ∷ b ∷ rest) place rising long =
    let up : a < b = rising 0 (omega arith) in
    ⊎_elim
    (λ (same : a ≡ place). record { other = b; among = (1, omega arith, refl); apart = λ (is : b ≡ place). absurd (omega (arith, up, same, is)) })
    (λ (apart : (a ≡ place → ⊥)). record { other = a; among = (0, omega arith, refl); apart = apart })
    (number_cases a place)
  where
    number_cases : (m n : ℕ) → (m ≡ n) ⊎ (m ≡ n → ⊥)
    number_cases zero zero = inl refl
    number_cases zero (suc n) = inr (λ same. absurd (omega (arith, same)))
    number_cases (suc m) zero = inr (λ same. absurd (omega (arith, same)))
    number_cases (suc m) (suc n) = ⊎_elim (λ (same : m ≡ n). inl (ap suc same)) (λ (apart : (m ≡ n → ⊥)). inr (λ same. apart (omega (arith, same)))) (number_cases m n)
