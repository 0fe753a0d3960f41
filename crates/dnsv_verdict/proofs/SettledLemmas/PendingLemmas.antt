-- Where each unknown entry turns out valid, the hopeful answers come true.
use Rattle.std.proofs.Common.{◌≡◌, ℕ, List, [], refl, sym, ◌∙◌, arith}
use Rattle.std.specs.Prelude.{Contains}
use Rattle.dnsv_names.specs.Name.{Labels}
use Rattle.dnsv_canonical.specs.Rrsets.{ReceivedRrset}
use Rattle.dnsv_verifier.specs.Admissible.{IsAsked}
use Rattle.dnsv_verifier.specs.Table.{hoped_answer}
use Rattle.dnsv_verifier.specs.declared.answer.Answer.{Answer}
use Rattle.dnsv_verifier.specs.declared.answer.Answer.TheVariants.{Valid, Unknown}
use Rattle.dnsv_verifier.specs.declared.entry.Entry.{Entry}
use Rattle.dnsv_chain.specs.Trusted.{IsSecured}
use Rattle.dnsv_anchors.specs.declared.anchor.Anchor.{Anchor}
use Rattle.dnsv_verdict.proofs.SettledLemmas.{settled_to}
use Rattle.dnsv_verdict.specs.Verdict.{AreUnknown, IsSettledVerdict, IsVerdictAt, MayBeSettledBy, IsSettledBy}
use Rattle.dnsv_chain.specs.Basis.{Basis, with_meaning}
use Rattle.dnsv_verdict.specs.declared.verdict.Verdict.{Verdict}
use Rattle.dnsv_verdict.specs.declared.verdict.Verdict.TheVariants.{Pending, Bogus, Indeterminate}

-- what is known stays, and what isn't is as hoped
as_hoped : (basis : Basis) (entries : List Entry) (later : Entry → Answer) → AreUnknown basis entries
    → ((entry : Entry) → Contains entries entry → later entry ≡ Valid)
    → ((entry : Entry) → ¬ Contains entries entry → later entry ≡ basis.meaning entry)
    → (entry : Entry) → IsAsked basis.moment basis.rrsets entry → (answer : Answer) → basis.meaning entry ≡ answer → hoped_answer answer ≡ later entry
as_hoped basis entries later unknown valid others entry asked Unknown is = sym (valid entry ((unknown.members entry).1 (asked, is)))
as_hoped basis entries later unknown valid others entry asked answer is =
    sym (others entry (λ among. let clash : Unknown ≡ answer = sym ((unknown.members entry).0 among).1 ∙ is in cc) ∙ is)

module _
    (depends : (first second : Entry → Answer) (moment : ℕ) (rrsets : List ReceivedRrset) (anchors : List Anchor)
    → ((entry : Entry) → IsAsked moment rrsets entry → first entry ≡ second entry)
    → (k s : ℕ) → IsSecured first moment rrsets anchors k s → IsSecured second moment rrsets anchors k s) where
  pub hopes_settle : (basis : Basis) (name : Labels) (t : ℕ) (entries : List Entry) (later : Entry → Answer)
      → MayBeSettledBy basis name t → AreUnknown basis entries
      → ((entry : Entry) → Contains entries entry → later entry ≡ Valid)
      → ((entry : Entry) → ¬ Contains entries entry → later entry ≡ basis.meaning entry)
      → IsSettledBy (with_meaning basis later) name t
  hopes_settle basis name t entries later may unknown valid others =
      let hoped : Entry → Answer = λ entry. hoped_answer (basis.meaning entry) in
      settled_to (IsSecured hoped basis.moment basis.rrsets basis.anchors) (IsSecured later basis.moment basis.rrsets basis.anchors)
      (depends hoped later basis.moment basis.rrsets basis.anchors
      (λ entry asked. as_hoped basis entries later unknown valid others entry asked (basis.meaning entry) refl)) basis.rrsets basis.rrsets (λ k rrset is. is) name t may

  -- where nothing is unknown, hope changes nothing
  pub nothing_to_hope : (basis : Basis) (name : Labels) (t : ℕ) → AreUnknown basis [] → MayBeSettledBy basis name t → IsSettledBy basis name t
  nothing_to_hope basis name t unknown may =
      hopes_settle basis name t [] basis.meaning may unknown (λ entry found. absurd (omega (arith, found.1))) (λ entry other. refl)

-- a verdict on what is settled is one of the first five
pub settled_is_conclusive : (basis : Basis) (name : Labels) (t : ℕ) (verdict : Verdict) → IsSettledBy basis name t
    → IsVerdictAt basis name t verdict → IsSettledVerdict verdict
settled_is_conclusive basis name t (Pending entries) settles is = is.0 settles
settled_is_conclusive basis name t Bogus settles is = is.0 settles
settled_is_conclusive basis name t Indeterminate settles is = is.0 settles
settled_is_conclusive basis name t verdict settles is = tt
