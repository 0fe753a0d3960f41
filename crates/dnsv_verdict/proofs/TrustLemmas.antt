-- What the trust of a table makes good is what the verifier makes good.
pub mod AnchorLemmas
use Rattle.std.proofs.Common.{◌≡◌, ℕ, List, subst, sym}
use Rattle.dnsv_canonical.specs.Rrsets.{ReceivedRrset}
use Rattle.dnsv_verifier.specs.Admissible.{IsAsked}
use Rattle.dnsv_verifier.specs.Table.{IsTableOf, TableContents, table_answer}
use Rattle.dnsv_verifier.specs.declared.answer.Answer.{Answer}
use Rattle.dnsv_verifier.specs.declared.entry.Entry.{Entry}
use Rattle.dnsv_chain.specs.Trust.{IsTrustOf, KeptTrust, SecuredIn}
use Rattle.dnsv_chain.specs.Trusted.{IsSecured}
use Rattle.dnsv_anchors.specs.declared.anchor.Anchor.{Anchor}
use Rattle.dnsv_names.specs.Name.{Labels}
use Rattle.dnsv_verdict.proofs.SettledLemmas.{settled_as_to, settled_to}
use Rattle.dnsv_verdict.specs.Settled.{IsSettled, IsSettledAs}
use Rattle.dnsv_chain.specs.Basis.{Basis, basis_of, CaseContents}
use Rattle.dnsv_verdict.specs.Verdict.{IsSettledAsBy, IsSettledBy, IsVerdictAt}
use Rattle.dnsv_verdict.specs.declared.verdict.Verdict.{Verdict}
use Rattle.dnsv_verdict.specs.declared.verdict.Verdict.TheVariants.{Pending, Bogus, Indeterminate}

module _ (meaning : Entry → Answer) (moment : ℕ) (rrsets : List ReceivedRrset) (anchors : List Anchor)
    (contents : TableContents) (trust : KeptTrust)
    (of_moment : contents.moment ≡ moment)
    (says : (entry : Entry) → IsAsked moment rrsets entry → table_answer contents entry ≡ meaning entry)
    (depends : (first second : Entry → Answer) (moment : ℕ) (rrsets : List ReceivedRrset) (anchors : List Anchor)
    → ((entry : Entry) → IsAsked moment rrsets entry → first entry ≡ second entry)
    → (k s : ℕ) → IsSecured first moment rrsets anchors k s → IsSecured second moment rrsets anchors k s)
    (is : IsTrustOf (table_answer contents) contents.moment rrsets anchors trust) where
  secured_to : (k s : ℕ) → SecuredIn trust k s → IsSecured meaning moment rrsets anchors k s
  secured_to k s kept =
      depends (table_answer contents) meaning moment rrsets anchors says k s
      (subst (λ m. IsSecured (table_answer contents) m rrsets anchors k s) of_moment (((is.signed k).members s).0 kept))

  secured_from : (k s : ℕ) → IsSecured meaning moment rrsets anchors k s → SecuredIn trust k s
  secured_from k s secured =
      ((is.signed k).members s).1 (subst (λ m. IsSecured (table_answer contents) m rrsets anchors k s) (sym of_moment)
      (depends meaning (table_answer contents) moment rrsets anchors (λ entry asked. sym (says entry asked)) k s secured))

  pub settled_from_trust : (name : Labels) (t : ℕ) → IsSettled (SecuredIn trust) rrsets name t → IsSettled (IsSecured meaning moment rrsets anchors) rrsets name t
  settled_from_trust name t = settled_to (SecuredIn trust) (IsSecured meaning moment rrsets anchors) secured_to rrsets rrsets (λ k rrset is. is) name t

  pub settled_by_trust : (name : Labels) (t : ℕ) → IsSettled (IsSecured meaning moment rrsets anchors) rrsets name t → IsSettled (SecuredIn trust) rrsets name t
  settled_by_trust name t = settled_to (IsSecured meaning moment rrsets anchors) (SecuredIn trust) secured_from rrsets rrsets (λ k rrset is. is) name t

  pub unsettled_by_trust : (name : Labels) (t : ℕ) → ¬ IsSettled (SecuredIn trust) rrsets name t → ¬ IsSettled (IsSecured meaning moment rrsets anchors) rrsets name t
  unsettled_by_trust name t none settles = none (settled_by_trust name t settles)

  pub settled_as_by_trust : (name : Labels) (t : ℕ) (verdict : Verdict) → IsSettledAs (SecuredIn trust) rrsets name t verdict
      → IsSettledAs (IsSecured meaning moment rrsets anchors) rrsets name t verdict
  settled_as_by_trust name t verdict =
      settled_as_to (SecuredIn trust) (IsSecured meaning moment rrsets anchors) secured_to secured_from rrsets name t verdict

-- what the trust of this case doesn't settle, the verifier doesn't
pub unsettled_on : (case : CaseContents) (meaning : Entry → Answer) (moment : ℕ)
    → IsTableOf meaning moment case.rrsets case.table
    → ((entry : Entry) → IsAsked moment case.rrsets entry → table_answer case.table entry ≡ meaning entry)
    → ((first second : Entry → Answer) (moment : ℕ) (rrsets : List ReceivedRrset) (anchors : List Anchor)
    → ((entry : Entry) → IsAsked moment rrsets entry → first entry ≡ second entry)
    → (k s : ℕ) → IsSecured first moment rrsets anchors k s → IsSecured second moment rrsets anchors k s)
    → IsTrustOf (table_answer case.table) case.table.moment case.rrsets case.anchors case.trust
    → (name : Labels) (t : ℕ) → ¬ IsSettled (SecuredIn case.trust) case.rrsets name t
    → ¬ IsSettledBy (basis_of case.rrsets case.anchors moment meaning) name t
unsettled_on case meaning moment table says depends is name t none =
    unsettled_by_trust meaning moment case.rrsets case.anchors case.table case.trust
    table.of_moment says depends is name t none

-- what is settled is the verdict
pub settled_is_verdict : (basis : Basis) (name : Labels) (t : ℕ) (verdict : Verdict) → IsSettledAsBy basis name t verdict → IsVerdictAt basis name t verdict
settled_is_verdict basis name t (Pending entries) is = absurd is
settled_is_verdict basis name t Bogus is = absurd is
settled_is_verdict basis name t Indeterminate is = absurd is
settled_is_verdict basis name t verdict is = is
