-- What fails of a question is one list.
use Rattle.std.proofs.Common.{◌≡◌, ◌∙◌, List, sym, subst}
use Rattle.dnsv_gaps.specs.Asking.{Asking}
use Rattle.dnsv_lines.specs.declared.line.Line.{Line}
use Rattle.dnsv_reasons.specs.Failures.{AreFailures, AreToldOf}
use Rattle.dnsv_reasons.specs.Lines.{AreSaidLines}
use Rattle.dnsv_remedies.specs.declared.said.Said.{Said}
use Rattle.dnsv_remedy_laws.proofs.Questions.{told-alike}
use Rattle.dnsv_reasons.proofs.lemmas.OneLine.{one_said_list}
use Rattle.dnsv_reasons.proofs.lemmas.facts.ZoneLemmas.{one_zone_facts}
use Rattle.dnsv_reasons.proofs.lemmas.questions.QuestionLemmas.{one_question}

module _ (a : Asking) where
  -- of a question the same is told
  one_told : (told other : List Said) → AreToldOf a told → AreToldOf a other → told ≡ other
  one_told told other x y =
      let zones = one_zone_facts a.basis a.name a.rtype x.zones y.zones x.of_zones y.of_zones in
      let question = one_question a x.question y.question x.of_question y.of_question in
      x.are ∙ told-alike x.zones y.zones x.question y.question zones question ∙ sym y.are

  pub one_failures : (lines others : List Line) → AreFailures a lines → AreFailures a others → lines ≡ others
  one_failures lines others x y =
      let Lines : List Said → Type 0 = λ told. AreSaidLines a told lines in
      let same : x.told ≡ y.told = one_told x.told y.told x.are_told y.are_told in
      one_said_list a y.told lines others (subst Lines same x.said) y.said
