-- The pairs of iterations and salt, record by record.
use Rattle.std.proofs.Common.{◌≡◌, ◌⊎◌, inl, inr, ⊎_elim, ℕ, suc, ◌+◌, ◌<◌, ◌≤◌, Bool, true, ◌&&◌, List, [], ◌∷◌, ◌++◌, length, get_or, take, drop, sym, ap, ◌∙◌, subst, append_assoc, arith, length-append, ◌↔◌, Option, Some, None}
use Rattle.std.proofs.lemmas.List.{append-nil, take-append-drop, take_more}
use Rattle.std.proofs.lemmas.Bool.{and_from, and_parts, eqb-true}
use Rattle.std.proofs.lemmas.List.Elements.{Contains-append_left, Contains-push, Contains-push_cases}
use Rattle.std.proofs.lemmas.List.Folds.{list_any_at}
use Rattle.std.proofs.lemmas.Map.Views.{Contains-from_any}
use Rattle.std.proofs.lemmas.Cmp.{lists_equiv, nat_eq_equiv}
use Rattle.std.proofs.lemmas.Slice.Eq.{bytes_eq-Decides}
use Rattle.std.proofs.lemmas.Grind.{flat_map-append}
use Rattle.std.specs.Cmp.Lexicographic.{pointwise}
use Rattle.std.specs.Prelude.{Contains, nat_eq, slice_get, if◌then◌else◌, ◌==◌}
use Rattle.std.specs.List.{list_any}
use Rattle.dnsv_records.specs.declared.nsec3.Nsec3.{Nsec3}
use Rattle.dnsv_records.specs.declared.nsec3.Nsec3Parameters.{Nsec3Parameters}
use Rattle.dnsv_records.specs.Nsec3.{IsNsec3, IsUsable}
use Rattle.dnsv_canonical.specs.Evidence.{IsDistinct, AreParameters, AtMost, AreUsableParameters, AreParametersAmong, nsec3_rdata}
use Rattle.dnsv_canonical.specs.Kept.{IsParametersRefusal}
use Rattle.dnsv_canonical.specs.Rdata.{rdata_of_type}
use Rattle.dnsv_canonical.specs.Rrsets.{ReceivedRrset}
use Rattle.dnsv_canonical.specs.declared.capture.CaptureError.{CaptureError}
use Rattle.dnsv_canonical.specs.declared.capture.CaptureError.TheVariants.{OutOfMemory, Limit}
use Rattle.dnsv_canonical.proofs.LimitLemmas.{few_where_distinct}
use Rattle.dnsv_canonical.proofs.OrderLemmas.{take_next}

-- ---- whether a pair is known

same_pair : (x y : Nsec3Parameters) → (nat_eq x.iterations.0 y.iterations.0 && pointwise nat_eq x.salt y.salt) ≡ true → x ≡ y
same_pair x y same =
    let parts = and_parts _ _ same in
    let numbers : x.iterations.0 ≡ y.iterations.0 = eqb-true _ _ parts.0 in
    let salts : x.salt ≡ y.salt = (bytes_eq-Decides x.salt y.salt).0 parts.1 in
    λ i. record { iterations = record { 0 = numbers i }; salt = salts i }

pair_itself : (x : Nsec3Parameters) → (nat_eq x.iterations.0 x.iterations.0 && pointwise nat_eq x.salt x.salt) ≡ true
pair_itself x = and_from _ _ (nat_eq_equiv.refl x.iterations.0) ((lists_equiv nat_eq_equiv).refl x.salt)

abbrev known : Nsec3Parameters → Nsec3Parameters → Bool
known pair y = nat_eq y.iterations.0 pair.iterations.0 && pointwise nat_eq y.salt pair.salt

pub any_contains : (pairs : List Nsec3Parameters) (pair : Nsec3Parameters) → list_any (λ y. nat_eq y.iterations.0 pair.iterations.0 && pointwise nat_eq y.salt pair.salt) pairs ≡ true → Contains pairs pair
any_contains pairs pair any = Contains-from_any {eq = known} (λ x y same. sym (same_pair y x same)) pair pairs any

pub contains_any : (pairs : List Nsec3Parameters) (pair : Nsec3Parameters) → Contains pairs pair → list_any (λ y. nat_eq y.iterations.0 pair.iterations.0 && pointwise nat_eq y.salt pair.salt) pairs ≡ true
contains_any pairs pair found = list_any_at (known pair) pairs found.0 pair found.1 (ap (known pair) found.2 ∙ pair_itself pair)

pub distinct_push : {X : Type 0} (xs : List X) (x : X) → IsDistinct xs → ¬ Contains xs x → IsDistinct (xs ++ x ∷ [])
distinct_push [] x distinct new = (λ found. absurd (omega (arith, found.1)), tt)
distinct_push (y ∷ ys) x distinct new = (
  λ found. ⊎_elim (λ front. distinct.0 front) (λ last. new (0, omega arith, sym last)) (Contains-push_cases ys x y found),
  distinct_push ys x distinct.1 (λ found. new (suc found.0, omega (arith, found.1), found.2)),
)

-- ---- one record more

among_part : (part rest : List (List ℕ)) (pair : Nsec3Parameters) → AreParametersAmong part pair → AreParametersAmong (part ++ rest) pair
among_part part rest pair among = (among.0, Contains-append_left part rest among.0 among.1, among.2)

module _ (earlier : List (List ℕ)) (pairs : List Nsec3Parameters) (are : AreParameters earlier pairs) (rdata : List ℕ) (found : Option Nsec3Parameters) (reads : (pair : Nsec3Parameters) → (found ≡ Some pair) ↔ AreUsableParameters rdata pair) where
  among_more : (pair : Nsec3Parameters) → AreParametersAmong (earlier ++ rdata ∷ []) pair → AreParametersAmong earlier pair ⊎ AreUsableParameters rdata pair
  among_more pair among =
      ⊎_elim (λ front. inl (among.0, front, among.2)) (λ last. inr (subst (λ r. AreUsableParameters r pair) (sym last) among.2)) (Contains-push_cases earlier rdata among.0 among.1)

  among_new : (pair : Nsec3Parameters) → AreUsableParameters rdata pair → AreParametersAmong (earlier ++ rdata ∷ []) pair
  among_new pair is = (rdata, Contains-push earlier rdata, is)

  -- the record has no pair, or one that is known
  pub AreParameters-known : ((pair : Nsec3Parameters) → found ≡ Some pair → Contains pairs pair) → AreParameters (earlier ++ rdata ∷ []) pairs
  AreParameters-known known = record {
    distinct = are.distinct;
    members = λ pair. (
      λ kept. among_part earlier (rdata ∷ []) pair ((are.members pair).0 kept),
      λ among. ⊎_elim (λ before. (are.members pair).1 before) (λ is. known pair ((reads pair).1 is)) (among_more pair among),
    );
  }

  pub AreParameters-had : (had : Nsec3Parameters) → found ≡ Some had → Contains pairs had → AreParameters (earlier ++ rdata ∷ []) pairs
  AreParameters-had had is among =
      AreParameters-known (λ pair some. let same : Some had ≡ Some pair = sym is ∙ some in let equal : had ≡ pair = cc in subst (λ p. Contains pairs p) equal among)

  pub AreParameters-new : (new : Nsec3Parameters) → found ≡ Some new → ¬ Contains pairs new → AreParameters (earlier ++ rdata ∷ []) (pairs ++ new ∷ [])
  AreParameters-new new is unknown = record {
    distinct = distinct_push pairs new are.distinct unknown;
    members = λ pair. (
      λ kept. ⊎_elim (λ before. among_part earlier (rdata ∷ []) pair ((are.members pair).0 before))
          (λ last. among_new pair (subst (AreUsableParameters rdata) last ((reads new).0 is))) (Contains-push_cases pairs new pair kept),
      λ among. ⊎_elim (λ before. Contains-append_left pairs (new ∷ []) pair ((are.members pair).1 before))
          (λ here. let same : Some new ≡ Some pair = sym is ∙ (reads pair).1 here in let equal : new ≡ pair = cc in subst (λ p. Contains (pairs ++ new ∷ []) p) equal (Contains-push pairs new)) (among_more pair among),
    );
  }

-- ---- the pair of one record

pub pair_of_usable : (rdata : List ℕ) (nsec3 : Nsec3) → IsNsec3 rdata nsec3 → IsUsable nsec3 → ((other : Nsec3) → IsNsec3 rdata other → nsec3 ≡ other) → (pair : Nsec3Parameters) → (Some nsec3.parameters ≡ Some pair) ↔ AreUsableParameters rdata pair
pair_of_usable rdata nsec3 is usable one pair = (
  λ same. let equal : pair ≡ nsec3.parameters = cc in (nsec3, is, usable, equal),
  λ of. ap (λ (n : Nsec3). Some n.parameters) (one of.0 of.1) ∙ ap Some (sym of.3),
)

pub no_pair_unusable : (rdata : List ℕ) (nsec3 : Nsec3) → ¬ IsUsable nsec3 → ((other : Nsec3) → IsNsec3 rdata other → nsec3 ≡ other) → (pair : Nsec3Parameters) → (None ≡ Some pair) ↔ AreUsableParameters rdata pair
no_pair_unusable rdata nsec3 unusable one pair = (
  λ none. cc,
  λ of. absurd (unusable (subst IsUsable (sym (one of.0 of.1)) of.2)),
)

-- ---- more records, and more RRsets

pub pairs_kept : (earlier : List (List ℕ)) (pairs : List Nsec3Parameters) → AreParameters earlier pairs → AreParameters (earlier ++ []) (pairs ++ [])
pairs_kept earlier pairs are = subst (λ e. AreParameters e (pairs ++ [])) (sym (append-nil earlier)) (subst (AreParameters earlier) (sym (append-nil pairs)) are)

pub nsec3_rdata-append : (old new : List ReceivedRrset) → nsec3_rdata (old ++ new) ≡ nsec3_rdata old ++ nsec3_rdata new
nsec3_rdata-append old new = flat_map-append (λ (rrset : ReceivedRrset). if rrset.rtype == 50 then rrset.rdata else []) old new

pub nsec3_rdata_more : (rrsets : List ReceivedRrset) (i : ℕ) (x : ReceivedRrset) → i < length rrsets → x ≡ get_or rrsets i x → nsec3_rdata (take (i + 1) rrsets) ≡ nsec3_rdata (take i rrsets) ++ nsec3_rdata (x ∷ [])
nsec3_rdata_more rrsets i x within at =
    ap nsec3_rdata (take_more rrsets i x within ∙ ap (λ (y : ReceivedRrset). take i rrsets ++ y ∷ []) (sym at))
    ∙ nsec3_rdata-append (take i rrsets) (x ∷ [])

-- the kept pairs and the fresh ones are within the limit where they are few
pub few_pairs : (limit : ℕ) (received : List (List ℕ)) (pairs : List Nsec3Parameters) → AreParameters received pairs → (length pairs ≤ limit) ↔ AtMost limit (AreParametersAmong received)
few_pairs limit received pairs are = few_where_distinct (AreParametersAmong received) limit pairs are.distinct are.members

-- ---- too many pairs

-- one pair more than the limit
pub one_too_many : (limit : ℕ) (received : List (List ℕ)) (pairs : List Nsec3Parameters) (new : Nsec3Parameters) → AreParameters received (pairs ++ new ∷ []) → limit ≤ length pairs → ¬ AtMost limit (AreParametersAmong received)
one_too_many limit received pairs new are full some =
    omega (arith, full, (few_pairs limit received (pairs ++ new ∷ []) are).1 some, length-append pairs (new ∷ []))

-- what is refused for some of the records is refused for all of them
refused_part : (part rest : List (List ℕ)) (error : CaptureError) → IsParametersRefusal part error → IsParametersRefusal (part ++ rest) error
refused_part part rest OutOfMemory refused = tt
refused_part part rest Limit many = λ few. many (few.0, few.1, λ pair among. few.2 pair (among_part part rest pair among))
refused_part part rest error refused = absurd refused

refused_of : (earlier part more rest all : List (List ℕ)) (error : CaptureError) → (part ++ more) ++ rest ≡ all → IsParametersRefusal ((earlier ++ part) ++ more) error → IsParametersRefusal (earlier ++ all) error
refused_of earlier part more rest all error is refused =
    subst (λ received. IsParametersRefusal received error)
    (append_assoc (earlier ++ part) more rest ∙ append_assoc earlier part (more ++ rest) ∙ ap (λ xs. earlier ++ xs) (sym (append_assoc part more rest) ∙ is))
    (refused_part ((earlier ++ part) ++ more) rest error refused)

pub refused_record : (earlier received : List (List ℕ)) (i : ℕ) (rdata : List ℕ) (error : CaptureError) → slice_get received i ≡ Some rdata
    → IsParametersRefusal ((earlier ++ take i received) ++ rdata ∷ []) error → IsParametersRefusal (earlier ++ received) error
refused_record earlier received i rdata error at refused =
    refused_of earlier (take i received) (rdata ∷ []) (drop (i + 1) received) received error
    (ap (λ xs. xs ++ drop (i + 1) received) (sym (take_next received i rdata at)) ∙ take-append-drop (i + 1) received)
    refused

pub refused_rrset : (earlier : List (List ℕ)) (rrsets : List ReceivedRrset) (i : ℕ) (x : ReceivedRrset) (error : CaptureError) → i < length rrsets → x ≡ get_or rrsets i x
    → IsParametersRefusal ((earlier ++ nsec3_rdata (take i rrsets)) ++ nsec3_rdata (x ∷ [])) error → IsParametersRefusal (earlier ++ nsec3_rdata rrsets) error
refused_rrset earlier rrsets i x error within at refused =
    let rest : List (List ℕ) = nsec3_rdata (drop (i + 1) rrsets) in
    refused_of earlier (nsec3_rdata (take i rrsets)) (nsec3_rdata (x ∷ [])) rest (nsec3_rdata rrsets) error
    (ap (λ xs. xs ++ rest) (sym (nsec3_rdata_more rrsets i x within at))
    ∙ sym (nsec3_rdata-append (take (i + 1) rrsets) (drop (i + 1) rrsets))
    ∙ ap nsec3_rdata (take-append-drop (i + 1) rrsets))
    refused

-- ---- RRsets with NSEC3 records

pub nsec3_rdata_of : (rrset : ReceivedRrset) → rdata_of_type 50 rrset ≡ nsec3_rdata (rrset ∷ [])
nsec3_rdata_of rrset = sym (append-nil (rdata_of_type 50 rrset))
