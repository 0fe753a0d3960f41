-- What wildcards' signatures ask for beside them.
use Rattle.std.proofs.Common.{◌≡◌, ◌↔◌, ◌-◌, ◌<◌, ◌≤◌, ℕ, Bool, true, false, List, [], Option, Some, None, if◌then◌else◌, length, get_or, refl, sym, ap, ◌∙◌, subst, arith, IsTrue}
use Rattle.std.proofs.lemmas.Bool.{false≢true}
use Rattle.std.proofs.lemmas.List.Kept.{Contains-dedup, Contains-from_dedup, IsStrictlySortedBy-dedup}
use Rattle.std.proofs.lemmas.List.Sorted.{Contains-permutation, IsPermutation-sym}
use Rattle.std.proofs.lemmas.Option.{slice_get-get_or, slice_get_within}
use Rattle.std.specs.List.{AllZip, Contains, dedup}
use Rattle.std.specs.List.Sorted.{IsPermutation, IsSorted, IsStrictlySortedBy}
use Rattle.std.specs.Option.{is_some}
use Rattle.std.specs.Prelude.{MatchOption, not, slice_get}
use Rattle.dnsv_names.specs.Name.{Labels, SameName}
use Rattle.dnsv_names.specs.Tree.{is_wildcard}
use Rattle.dnsv_names.specs.Tree.TreeLaws.{same_labels}
use Rattle.dnsv_records.specs.Rrsig.{IsRrsig}
use Rattle.dnsv_records.specs.declared.rrsig.Rrsig.{Rrsig}
use Rattle.dnsv_canonical.specs.Rrsets.{ReceivedRrset}
use Rattle.dnsv_canonical.specs.SignedData.{IsExpanded, signed_label_count}
use Rattle.dnsv_canonical.specs.declared.number.RecordNumber.{RecordNumber}
use Rattle.dnsv_canonical.proofs.OrderLemmas.{zip_at}
use Rattle.dnsv_chain.proofs.ZipLemmas.{zip_length}
use Rattle.dnsv_chain.specs.Trust.{SecuredIn}
use Rattle.dnsv_chain.specs.Trusted.{IsSecured}
use Rattle.dnsv_denial.proofs.lemmas.proving.NumberLemmas.{number_cmp_total, number_eq, number_eq_equiv, number_eq_ties, same_number}
use Rattle.dnsv_denial.specs.proving.FirstProof.{CanProveNoCloser}
use Rattle.dnsv_proof_forms.specs.records.Numbers.{number_cmp}
use Rattle.dnsv_mending.specs.declared.facts.signature.RrsetFacts.{RrsetFacts}
use Rattle.dnsv_chain.specs.Basis.{CaseContents, HasTrust, basis_by, Basis}
use Rattle.dnsv_denial.proofs.lemmas.more.EvidenceLemmas.{no_closer_can_to}
use Rattle.dnsv_faults.specs.Signatures.{IsSignatureAt}
use Rattle.dnsv_gaps.specs.Parts.{AreFactsOf}

-- ---- signatures

-- the signature at a place has the next number
pub signature_at : (rrset : ReceivedRrset) (signatures : List Rrsig) (number : ℕ) (rrsig : Rrsig) → AllZip IsRrsig rrset.signatures signatures
    → 1 ≤ number → number ≤ length signatures → rrsig ≡ get_or signatures (number - 1) rrsig → IsSignatureAt rrset number rrsig
signature_at rrset signatures number rrsig read from within at =
    let there : slice_get signatures (number - 1) ≡ Some rrsig =
    slice_get-get_or signatures (number - 1) rrsig (omega (arith, from, within)) ∙ ap (λ y. Some y) (sym at) in
    let own = zip_at IsRrsig rrset.signatures signatures (number - 1) rrsig read there in
    record { rdata = own.0; numbered = (from, own.1); is = own.2 }

-- a number of a signature is in range
pub in_range : (rrset : ReceivedRrset) (signatures : List Rrsig) (number : ℕ) (rrsig : Rrsig) → AllZip IsRrsig rrset.signatures signatures
    → IsSignatureAt rrset number rrsig → (1 ≤ number) × (number ≤ length signatures)
in_range rrset signatures number rrsig read its =
    let size = zip_length IsRrsig rrset.signatures signatures read in
    let from = its.numbered.0 in
    let within = slice_get_within rrset.signatures (number - 1) its.rdata its.numbered.1 in
    (from, omega (arith, size, from, within))

counted_by : (b : Bool) (n : ℕ) → (if b then n - 1 else n) ≤ n
counted_by true n = omega arith
counted_by false n = omega arith

-- an expanded RRset has more labels than its signature counts
pub fewer_counted : (name owner : Labels) (rrsig : Rrsig) → SameName owner name → IsExpanded owner rrsig → rrsig.labels < length name
fewer_counted name owner rrsig same expanded =
    let size = same_labels owner name same in
    let counted : signed_label_count owner ≤ length owner = counted_by (is_wildcard owner) (length owner) in
    omega (arith, size, counted, expanded)

-- ---- what is proved against closer names

module _ (case : CaseContents) (trust : HasTrust case) (name : Labels) (labels : ℕ) (zone : Labels) where
  abbrev Secured : ℕ → ℕ → Type 0
  Secured = IsSecured (basis_by case).meaning (basis_by case).moment case.rrsets case.anchors

  pub denied_by_trust : CanProveNoCloser Secured case.rrsets name labels zone → CanProveNoCloser (SecuredIn case.trust) case.rrsets name labels zone
  denied_by_trust = no_closer_can_to Secured (SecuredIn case.trust) (λ k s secured. ((trust.signed k).members s).1 secured) case.rrsets case.rrsets
      (λ k rrset is. is) name labels zone

  pub denied_from_trust : CanProveNoCloser (SecuredIn case.trust) case.rrsets name labels zone → CanProveNoCloser Secured case.rrsets name labels zone
  denied_from_trust = no_closer_can_to (SecuredIn case.trust) Secured (λ k s secured. ((trust.signed k).members s).0 secured) case.rrsets case.rrsets
      (λ k rrset is. is) name labels zone

-- no proof is found just where nothing is proved, by the trust or as it is told
pub none_proved : {Proof : Type 0} (found : Option Proof) (b : Bool) (Can Denied : Type 0) (Is : Proof → Type 0) → (Can → Denied) → (Denied → Can)
    → ((proof : Proof) → Is proof → Can) → MatchOption found (¬ Can) Is → is_some found ≡ not b → IsTrue b ↔ (¬ Denied)
none_proved None true Can Denied Is to from shows none test = (λ yes denied. none (from denied), λ never. refl)
none_proved None false Can Denied Is to from shows none test = absurd (false≢true test)
none_proved (Some proof) true Can Denied Is to from shows first test = absurd (false≢true (sym test))
none_proved (Some proof) false Can Denied Is to from shows first test =
    (λ yes. absurd (false≢true yes), λ never. absurd (never (to (shows proof first))))

-- ---- numbers of records in their order

-- sorted, and each once
pub rising_once : (sorted : List RecordNumber) → IsSorted number_cmp sorted → IsStrictlySortedBy number_cmp (dedup number_eq sorted)
rising_once sorted ordered = IsStrictlySortedBy-dedup number_cmp_total number_eq_ties sorted ordered

pub same_members : (old sorted : List RecordNumber) → IsPermutation old sorted → (n : RecordNumber) → Contains (dedup number_eq sorted) n ↔ Contains old n
same_members old sorted moved n = (
  λ there. Contains-permutation sorted old n (IsPermutation-sym old sorted moved) (Contains-from_dedup number_eq sorted n there),
  λ there. Contains-dedup number_eq_equiv same_number sorted n (Contains-permutation old sorted n moved there),
)

-- ---- facts of the same records

pub facts_same : (basis : Basis) (P Q : RecordNumber → Type 0) (facts : List RrsetFacts) → ((n : RecordNumber) → P n ↔ Q n)
    → AreFactsOf basis P facts → AreFactsOf basis Q facts
facts_same basis P Q facts same are = record {
  rising = are.rising;
  each = are.each;
  members = λ k. (
    λ there. let has = (are.members k).0 there in (has.0, has.1, (same has.0).0 has.2),
    λ has. (are.members k).1 (has.0, has.1, (same has.0).1 has.2),
  );
}

pub no_facts : (basis : Basis) (P : RecordNumber → Type 0) (facts : List RrsetFacts) → facts ≡ [] → ((n : RecordNumber) → ¬ P n) → AreFactsOf basis P facts
unfolding IsStrictlySortedBy
no_facts basis P facts none never = subst (AreFactsOf basis P) (sym none) (record {
  rising = tt;
  each = tt;
  members = λ k. (λ there. absurd (let within = there.1 in omega (arith, within)), λ has. absurd (never has.0 has.2));
})
