-- The times of signatures, one after another.
use Rattle.std.proofs.Common.{◌≡◌, ◌↔◌, ℕ, zero, suc, ◌+◌, ◌<◌, ◌≤◌, ◌⊎◌, inl, inr, List, [], ◌∷◌, ◌++◌, length, get_or, take, refl, sym, ap, ◌∙◌, subst, arith, ⊎_elim}
use Rattle.std.proofs.lemmas.List.{take_all, take_more}
use Rattle.std.proofs.lemmas.List.Elements.{Contains-append_left, Contains-get_or, Contains-push, Contains-push_cases}
use Rattle.std.specs.List.{AllZip, Contains}
use Rattle.dnsv_records.proofs.OneRecord.{one_rrsig}
use Rattle.dnsv_records.specs.Rrsig.{IsRrsig}
use Rattle.dnsv_records.specs.declared.rrsig.Rrsig.{Rrsig}
use Rattle.dnsv_canonical.specs.Rrsets.{ReceivedRrset}
use Rattle.dnsv_moments.specs.Dates.{AddsTimes, AreTimesOf, IsTimesOf, times_of}
use Rattle.dnsv_timeline.specs.declared.times.Times.{Times}

none_in : {X : Type 0} (x : X) → Contains [] x → ⊥
none_in x there = omega (arith, there.1)

-- ---- of one RRset

-- the new list has what the old one has, and the times of the signatures
pub record AddsRead (rrsigs : List Rrsig) (old new : List Times) : Type 0 where
  pub members : (times : Times)
      → Contains new times ↔ (Contains old times ⊎ ((rrsig : Rrsig) × Contains rrsigs rrsig × (times ≡ times_of rrsig)))

pub read_none : (rrsigs : List Rrsig) (old : List Times) → AddsRead (take 0 rrsigs) old old
read_none rrsigs old = record {
  members = λ times. (
    λ there. inl there,
    λ either. ⊎_elim (λ (there : Contains old times). there)
        (λ (of : (rrsig : Rrsig) × Contains [] rrsig × (times ≡ times_of rrsig)). absurd (none_in of.0 of.1)) either,
  );
}

one_read : (rrsigs : List Rrsig) (rrsig : Rrsig) (old some : List Times) → AddsRead rrsigs old some
    → AddsRead (rrsigs ++ rrsig ∷ []) old (some ++ times_of rrsig ∷ [])
one_read rrsigs rrsig old some adds = record {
  members = λ times. (
    λ found. ⊎_elim (λ (there : Contains some times). ⊎_elim (λ (before : Contains old times). inl before)
        (λ (of : (each : Rrsig) × Contains rrsigs each × (times ≡ times_of each)).
        inr (of.0, Contains-append_left rrsigs (rrsig ∷ []) of.0 of.1, of.2)) ((adds.members times).0 there))
        (λ (last : times_of rrsig ≡ times). inr (rrsig, Contains-push rrsigs rrsig, sym last))
        (Contains-push_cases some (times_of rrsig) times found),
    λ either. ⊎_elim
        (λ (before : Contains old times). Contains-append_left some (times_of rrsig ∷ []) times ((adds.members times).1 (inl before)))
        (λ (of : (each : Rrsig) × Contains (rrsigs ++ rrsig ∷ []) each × (times ≡ times_of each)). ⊎_elim
        (λ (there : Contains rrsigs of.0).
        Contains-append_left some (times_of rrsig ∷ []) times ((adds.members times).1 (inr (of.0, there, of.2))))
        (λ (last : rrsig ≡ of.0).
        let same : times_of rrsig ≡ times = ap (λ (each : Rrsig). times_of each) last ∙ sym of.2 in
        subst (λ (each : Times). Contains (some ++ times_of rrsig ∷ []) each) same (Contains-push some (times_of rrsig)))
        (Contains-push_cases rrsigs rrsig of.0 of.1)) either,
  );
}

pub read_more : (rrsigs : List Rrsig) (i : ℕ) (rrsig : Rrsig) (old some new : List Times) → i < length rrsigs → rrsig ≡ get_or rrsigs i rrsig
    → AddsRead (take i rrsigs) old some → new ≡ some ++ times_of rrsig ∷ [] → AddsRead (take (i + 1) rrsigs) old new
read_more rrsigs i rrsig old some new within is adds pushed =
    let longer : take (i + 1) rrsigs ≡ take i rrsigs ++ rrsig ∷ [] =
    take_more rrsigs i rrsig within ∙ ap (λ (z : Rrsig). take i rrsigs ++ z ∷ []) (sym is) in
    let All : List Rrsig → Type 0 = λ each. AddsRead each old (some ++ times_of rrsig ∷ []) in
    subst (λ (each : List Times). AddsRead (take (i + 1) rrsigs) old each) (sym pushed)
    (subst All (sym longer) (one_read (take i rrsigs) rrsig old some adds))

-- ---- what was read

zip_length : (xs : List (List ℕ)) (ys : List Rrsig) → AllZip IsRrsig xs ys → length xs ≡ length ys
zip_length [] [] all = refl
zip_length [] (y ∷ ys) all = absurd all
zip_length (x ∷ xs) [] all = absurd all
zip_length (x ∷ xs) (y ∷ ys) all = let rest = zip_length xs ys all.1 in omega (arith, rest)

zip_at : (xs : List (List ℕ)) (ys : List Rrsig) (k : ℕ) (d : List ℕ) (e : Rrsig) → AllZip IsRrsig xs ys → k < length xs
    → IsRrsig (get_or xs k d) (get_or ys k e)
zip_at [] ys k d e all within = absurd (omega (arith, within))
zip_at (x ∷ xs) [] k d e all within = absurd all
zip_at (x ∷ xs) (y ∷ ys) zero d e all within = all.0
zip_at (x ∷ xs) (y ∷ ys) (suc k) d e all within = zip_at xs ys k d e all.1 (omega (arith, within))

module _ (rrset : ReceivedRrset) (rrsigs : List Rrsig) (are : AllZip IsRrsig rrset.signatures rrsigs) where
  rdata_of : (rrsig : Rrsig) → Contains rrsigs rrsig → (rdata : List ℕ) × Contains rrset.signatures rdata × IsRrsig rdata rrsig
  rdata_of rrsig (k, within, at) =
      let count = zip_length rrset.signatures rrsigs are in
      let rdata : List ℕ = get_or rrset.signatures k [] in
      let inside : k < length rrset.signatures = omega (arith, count, within) in (
        rdata,
        Contains-get_or rrset.signatures k [] inside,
        subst (λ (r : Rrsig). IsRrsig rdata r) at (zip_at rrset.signatures rrsigs k [] rrsig are inside),
      )

  of_rdata : (rrsig : Rrsig) (rdata : List ℕ) → Contains rrset.signatures rdata → IsRrsig rdata rrsig → Contains rrsigs rrsig
  of_rdata rrsig rdata (k, within, at) is =
      let count = zip_length rrset.signatures rrsigs are in
      let there : IsRrsig rdata (get_or rrsigs k rrsig) =
      subst (λ (r : List ℕ). IsRrsig r (get_or rrsigs k rrsig)) at (zip_at rrset.signatures rrsigs k rdata rrsig are within) in
      (k, omega (arith, count, within), one_rrsig rdata (get_or rrsigs k rrsig) rrsig there is)

  adds_all : (old new : List Times) → AddsRead rrsigs old new → AddsTimes rrset old new
  adds_all old new adds = record {
    members = λ times. (
      λ found. ⊎_elim (λ (before : Contains old times). inl before)
          (λ (of : (each : Rrsig) × Contains rrsigs each × (times ≡ times_of each)).
          let read = rdata_of of.0 of.1 in inr (of.0, read.0, read.1, read.2, of.2)) ((adds.members times).0 found),
      λ either. ⊎_elim (λ (before : Contains old times). (adds.members times).1 (inl before))
          (λ (of : IsTimesOf rrset times). (adds.members times).1 (inr (of.0, of_rdata of.0 of.1 of.2 of.3, of.4))) either,
    );
  }

  pub read_all : (i : ℕ) (old new : List Times) → length rrsigs ≤ i → AddsRead (take i rrsigs) old new → AddsTimes rrset old new
  read_all i old new past adds =
      adds_all old new (subst (λ (each : List Rrsig). AddsRead each old new) (take_all i rrsigs past) adds)

-- ---- of all RRsets

pub dates_none : (rrsets : List ReceivedRrset) (none : List Times) → none ≡ [] → AreTimesOf (take 0 rrsets) none
dates_none rrsets none empty times = (
  λ there. absurd (none_in times (subst (λ (each : List Times). Contains each times) empty there)),
  λ of. absurd (none_in of.0 of.1),
)

one_date : (rrsets : List ReceivedRrset) (rrset : ReceivedRrset) (some new : List Times) → AreTimesOf rrsets some → AddsTimes rrset some new
    → AreTimesOf (rrsets ++ rrset ∷ []) new
one_date rrsets rrset some new are adds times = (
  λ found. ⊎_elim (λ (there : Contains some times). let of = (are times).0 there in
      (of.0, Contains-append_left rrsets (rrset ∷ []) of.0 of.1, of.2))
      (λ (of : IsTimesOf rrset times). (rrset, Contains-push rrsets rrset, of)) ((adds.members times).0 found),
  λ of. ⊎_elim (λ (there : Contains rrsets of.0). (adds.members times).1 (inl ((are times).1 (of.0, there, of.2))))
      (λ (last : rrset ≡ of.0). (adds.members times).1 (inr (subst (λ (each : ReceivedRrset). IsTimesOf each times) (sym last) of.2)))
      (Contains-push_cases rrsets rrset of.0 of.1),
)

pub dates_more : (rrsets : List ReceivedRrset) (i : ℕ) (rrset : ReceivedRrset) (some new : List Times) → i < length rrsets
    → rrset ≡ get_or rrsets i rrset → AreTimesOf (take i rrsets) some → AddsTimes rrset some new → AreTimesOf (take (i + 1) rrsets) new
dates_more rrsets i rrset some new within is are adds =
    let longer : take (i + 1) rrsets ≡ take i rrsets ++ rrset ∷ [] =
    take_more rrsets i rrset within ∙ ap (λ (z : ReceivedRrset). take i rrsets ++ z ∷ []) (sym is) in
    subst (λ (each : List ReceivedRrset). AreTimesOf each new) (sym longer) (one_date (take i rrsets) rrset some new are adds)

pub dates_all : (rrsets : List ReceivedRrset) (i : ℕ) (new : List Times) → length rrsets ≤ i → AreTimesOf (take i rrsets) new
    → AreTimesOf rrsets new
dates_all rrsets i new past are = subst (λ (each : List ReceivedRrset). AreTimesOf each new) (take_all i rrsets past) are
