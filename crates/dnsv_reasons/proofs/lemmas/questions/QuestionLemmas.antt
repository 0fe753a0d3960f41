-- What is so of a question is one.
use Rattle.std.proofs.Common.{◌∙◌, sym}
use Rattle.dnsv_chain.specs.Basis.{HasAnchor}
use Rattle.dnsv_remedies.specs.declared.facts.question.QuestionFacts.{QuestionFacts}
use Rattle.dnsv_gaps.specs.Asking.{Asking}
use Rattle.dnsv_gaps.specs.questions.Questions.{AreQuestionFacts}
use Rattle.dnsv_remedy_laws.specs.AlikeQuestions.{AreAlikeQuestions}
use Rattle.dnsv_reasons.proofs.lemmas.facts.ListLemmas.{one_test}
use Rattle.dnsv_reasons.proofs.lemmas.questions.CutLemmas.{one_parents}
use Rattle.dnsv_reasons.proofs.lemmas.questions.GoalLemmas.{one_goals}
use Rattle.dnsv_reasons.proofs.lemmas.questions.SpeakerLemmas.{one_speakers}

pub one_question : (a : Asking) (q other : QuestionFacts) → AreQuestionFacts a q → AreQuestionFacts a other → AreAlikeQuestions q other
one_question a q other x y = record {
  labels = x.labels ∙ sym y.labels;
  is_anchored = one_test (HasAnchor a.basis.anchors a.name) q.is_anchored other.is_anchored x.is_anchored y.is_anchored;
  goals = one_goals a q.goals.items other.goals.items x.goals y.goals;
  dnames = x.dnames ∙ sym y.dnames;
  speakers = one_speakers a q.speakers.items other.speakers.items x.speakers y.speakers;
  parents = one_parents a q.parents.items other.parents.items x.parents y.parents;
}
