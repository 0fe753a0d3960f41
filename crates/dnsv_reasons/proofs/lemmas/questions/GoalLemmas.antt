-- What may answer a question is one.
use Rattle.std.proofs.Common.{◌≡◌, ◌↔◌, ℕ, IsTrue, List, [], ◌∷◌, map, sym, ap, subst}
use Rattle.std.specs.List.{AllByRecursion, AllZip}
use Rattle.dnsv_zones.specs.zones.TypeNumbers.{cname}
use Rattle.dnsv_canonical.specs.Rrsets.{IsNumbered, ReceivedRrset}
use Rattle.dnsv_canonical.specs.declared.number.SignatureNumber.{SignatureNumber}
use Rattle.dnsv_canonical.proofs.NumberLemmas.{one_numbered}
use Rattle.dnsv_mending.specs.declared.facts.signature.SignatureFacts.{SignatureFacts}
use Rattle.dnsv_remedies.specs.declared.facts.answer.AnswerSignature.{AnswerSignature}
use Rattle.dnsv_remedies.specs.declared.facts.answer.GoalFacts.{GoalFacts}
use Rattle.dnsv_faults.specs.Rrsets.{AreRrsetFacts}
use Rattle.dnsv_gaps.specs.Asking.{Asking}
use Rattle.dnsv_gaps.specs.questions.Closers.{HasCloserAt}
use Rattle.dnsv_gaps.specs.questions.Goals.{AreGoalFacts, AreGoals, HasItsCloser, IsGoalNumber}
use Rattle.dnsv_remedy_laws.specs.AlikeQuestions.{AreAlikeAnswers, AreAlikeGoals}
use Rattle.dnsv_remedy_laws.specs.AlikeZones.{AreAlikeRrsets, AreAlikeSignatures}
use Rattle.dnsv_reasons.proofs.lemmas.facts.ListLemmas.{one_test}
use Rattle.dnsv_reasons.proofs.lemmas.facts.RrsetLemmas.{one_rrset_facts}
use Rattle.dnsv_reasons.proofs.lemmas.questions.CloserLemmas.{one_closer}
use Rattle.dnsv_reasons.proofs.lemmas.questions.ListLemmas.{one_of_numbers}

abbrev signature_of : AnswerSignature → SignatureFacts
signature_of each = each.signature

module _ (a : Asking) where
  one_answers : (rrset : ReceivedRrset) (c d : List AnswerSignature) → AllZip AreAlikeSignatures (map signature_of c) (map signature_of d)
      → AllByRecursion (HasItsCloser a rrset) c → AllByRecursion (HasItsCloser a rrset) d → AllZip AreAlikeAnswers c d
  one_answers rrset [] [] alike x y = tt
  one_answers rrset [] (g ∷ d) alike x y = absurd alike
  one_answers rrset (f ∷ c) [] alike x y = absurd alike
  one_answers rrset (f ∷ c) (g ∷ d) alike x y =
      let number : f.signature.number.signature ≡ g.signature.number.signature = ap (λ (n : SignatureNumber). n.signature) alike.0.number in
      let At : ℕ → Type 0 = λ s. HasCloserAt a rrset s f.closer in
      let first : AreAlikeAnswers f g = record {
        signature = alike.0;
        closer = one_closer a rrset g.signature.number.signature f.closer g.closer (subst At number x.0) y.0;
      } in
      (first, one_answers rrset c d alike.1 x.1 y.1)

  one_goal : (c d : GoalFacts) → c.number ≡ d.number → AreGoalFacts a c → AreGoalFacts a d → AreAlikeGoals c d
  one_goal c d same x y =
      let Numbered : ℕ → Type 0 = λ k. IsNumbered a.basis.rrsets k x.rrset in
      let rrset : x.rrset ≡ y.rrset = one_numbered a.basis.rrsets d.number x.rrset y.rrset (subst Numbered same x.numbered) y.numbered in
      let Known : ℕ → Type 0 = λ k. AreRrsetFacts a.basis k x.known in
      let known : AreAlikeRrsets x.known y.known =
      one_rrset_facts a.basis d.number x.known y.known (subst Known same x.are_known) y.are_known in
      let Alike : List SignatureFacts → List SignatureFacts → Type 0 = AllZip AreAlikeSignatures in
      let alike : Alike (map signature_of c.signatures.items) (map signature_of d.signatures.items) =
      subst (λ (first : List SignatureFacts). Alike first (map signature_of d.signatures.items)) (sym x.signatures)
      (subst (λ (second : List SignatureFacts). Alike x.known.signatures.items second) (sym y.signatures) known.signatures) in
      let Cname : ReceivedRrset → Type 0 = λ each. IsTrue c.is_cname ↔ (each.rtype ≡ cname) in
      let Closers : ReceivedRrset → Type 0 = λ each. AllByRecursion (HasItsCloser a each) c.signatures.items in
      record {
        number = same;
        is_cname = one_test (y.rrset.rtype ≡ cname) c.is_cname d.is_cname (subst Cname rrset x.is_cname) y.is_cname;
        signatures = one_answers y.rrset c.signatures.items d.signatures.items alike (subst Closers rrset x.closers) y.closers;
      }

  pub one_goals : (c d : List GoalFacts) → AreGoals a c → AreGoals a d → AllZip AreAlikeGoals c d
  one_goals c d x y =
      one_of_numbers (λ (goal : GoalFacts). goal.number) (IsGoalNumber a) (AreGoalFacts a) AreAlikeGoals one_goal c d x y
