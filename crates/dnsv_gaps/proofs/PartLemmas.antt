-- What is so of the RRsets of some records.
use Rattle.std.proofs.Common.{◌≡◌, ◌↔◌, ℕ, zero, suc, List, [], ◌∷◌, map, refl, sym, ap, ◌∙◌, subst, arith}
use Rattle.std.proofs.lemmas.List.Sorted.{Contains-permutation, IsPermutation-sym}
use Rattle.std.specs.List.{AllByRecursion, AllZip}
use Rattle.std.specs.List.Sorted.{IsPermutation, IsStrictlySortedBy}
use Rattle.std.specs.Ordering.{nat_cmp}
use Rattle.std.specs.Prelude.{Contains}
use Rattle.dnsv_canonical.proofs.OrderLemmas.{each_member, each_of}
use Rattle.dnsv_canonical.specs.Rrsets.{ReceivedRrset}
use Rattle.dnsv_canonical.specs.declared.number.RecordNumber.{RecordNumber}
use Rattle.dnsv_chain.specs.Basis.{Basis}
use Rattle.dnsv_mending.specs.declared.facts.signature.RrsetFacts.{RrsetFacts}
use Rattle.dnsv_faults.specs.Rrsets.{AreRrsetFacts}
use Rattle.dnsv_gaps.proofs.RisingLemmas.{contains_map, mapped_from}
use Rattle.dnsv_gaps.specs.Parts.{AreFactsOf, HasSuch, IsInEvidence, IsRrset}

abbrev pub rrset_of : RecordNumber → ℕ
rrset_of number = number.rrset

-- an RRset has a record among those just where its number is among theirs
pub such_members : (numbers : List RecordNumber) (k : ℕ) → Contains (map rrset_of numbers) k ↔ HasSuch (Contains numbers) k
such_members numbers k = (
  λ there. let of = mapped_from rrset_of numbers k there in (of.0, of.2, of.1),
  λ has. subst (Contains (map rrset_of numbers)) has.1 (contains_map rrset_of numbers has.0 has.2),
)

pub such_rrsets : (rrsets : List ReceivedRrset) (numbers : List RecordNumber) (ks : List ℕ) → AllByRecursion (IsInEvidence rrsets) numbers
    → ((k : ℕ) → Contains ks k ↔ HasSuch (Contains numbers) k) → AllByRecursion (IsRrset rrsets) ks
such_rrsets rrsets numbers ks there members =
    each_member (IsRrset rrsets) ks (λ k in_ks.
    let has = (members k).0 in_ks in
    subst (IsRrset rrsets) has.1 (each_of (IsInEvidence rrsets) numbers has.0 there has.2))

numbers_are : (basis : Basis) (ks : List ℕ) (facts : List RrsetFacts) → AllZip (AreRrsetFacts basis) ks facts
    → map (λ (each : RrsetFacts). each.number) facts ≡ ks
numbers_are basis [] [] zip = refl
numbers_are basis [] (f ∷ facts) zip = absurd zip
numbers_are basis (k ∷ ks) [] zip = absurd zip
numbers_are basis (k ∷ ks) (f ∷ facts) zip = λ i. zip.0.number i ∷ numbers_are basis ks facts zip.1 i

facts_are : (basis : Basis) (ks : List ℕ) (facts : List RrsetFacts) → AllZip (AreRrsetFacts basis) ks facts
    → AllByRecursion (λ each. AreRrsetFacts basis each.number each) facts
facts_are basis [] [] zip = tt
facts_are basis [] (f ∷ facts) zip = absurd zip
facts_are basis (k ∷ ks) [] zip = absurd zip
facts_are basis (k ∷ ks) (f ∷ facts) zip =
    (subst (λ (n : ℕ). AreRrsetFacts basis n f) (sym zip.0.number) zip.0, facts_are basis ks facts zip.1)

pub facts_from : (basis : Basis) (Such : RecordNumber → Type 0) (ks : List ℕ) (facts : List RrsetFacts)
    → IsStrictlySortedBy nat_cmp ks → ((k : ℕ) → Contains ks k ↔ HasSuch Such k) → AllZip (AreRrsetFacts basis) ks facts
    → AreFactsOf basis Such facts
facts_from basis Such ks facts rising members zip =
    let same = sym (numbers_are basis ks facts zip) in record {
      rising = subst (IsStrictlySortedBy nat_cmp) same rising;
      each = facts_are basis ks facts zip;
      members = λ k. subst (λ (ns : List ℕ). Contains ns k ↔ HasSuch Such k) same (members k);
    }

-- the same, said of otherwise
pub facts_as : (basis : Basis) (Such Other : RecordNumber → Type 0) (facts : List RrsetFacts)
    → ((n : RecordNumber) → Such n ↔ Other n) → AreFactsOf basis Such facts → AreFactsOf basis Other facts
facts_as basis Such Other facts same are = record {
  rising = are.rising;
  each = are.each;
  members = λ k. (
    λ there. let has = (are.members k).0 there in (has.0, has.1, (same has.0).0 has.2),
    λ has. (are.members k).1 (has.0, has.1, (same has.0).1 has.2),
  );
}

-- those of one record
pub one_fact : (basis : Basis) (number : RecordNumber) (facts : RrsetFacts) → AreRrsetFacts basis number.rrset facts
    → AreFactsOf basis (λ n. n ≡ number) (facts ∷ [])
unfolding IsStrictlySortedBy
one_fact basis number facts are = record {
  rising = (tt, tt);
  each = (subst (λ (n : ℕ). AreRrsetFacts basis n facts) (sym are.number) are, tt);
  members = λ k. (
    λ there. (number, sym are.number ∙ alone facts.number k there, refl),
    λ has. (0, omega arith, are.number ∙ sym (ap rrset_of has.2) ∙ has.1),
  );
} where
  alone : (n k : ℕ) → Contains (n ∷ []) k → n ≡ k
  alone n k (zero, within, at) = at
  alone n k (suc m, within, at) = absurd (omega (arith, within))

-- ---- sorted, and each once

pub moved_members : (ks sorted : List ℕ) → IsPermutation ks sorted → (k : ℕ) → Contains sorted k ↔ Contains ks k
moved_members ks sorted moved k = (
  λ there. Contains-permutation sorted ks k (IsPermutation-sym ks sorted moved) there,
  λ there. Contains-permutation ks sorted k moved there,
)
