-- What is so of a question.
use Rattle.std.specs.Prelude.{◌≡◌, ◌↔◌, IsTrue, length}
use Rattle.dnsv_chain.specs.Basis.{HasAnchor}
use Rattle.dnsv_remedies.specs.declared.facts.question.QuestionFacts.{QuestionFacts}
use Rattle.dnsv_gaps.specs.Asking.{Asking}
use Rattle.dnsv_gaps.specs.questions.Cuts.{AreParents}
use Rattle.dnsv_gaps.specs.questions.Dnames.{dnames_above}
use Rattle.dnsv_gaps.specs.questions.Goals.{AreGoals}
use Rattle.dnsv_gaps.specs.Speakers.{AreSpeakers}

pub record AreQuestionFacts (a : Asking) (facts : QuestionFacts) : Type 0 where
  pub labels : facts.labels ≡ length a.name
  -- an anchor is at or above the name
  pub is_anchored : IsTrue facts.is_anchored ↔ HasAnchor a.basis.anchors a.name
  -- what may answer, by numbers
  pub goals : AreGoals a facts.goals.items
  -- the names above that own DNAME RRsets, from the root down
  pub dnames : facts.dnames.items ≡ dnames_above a.basis.rrsets a.name
  -- the known zones, from many labels to few
  pub speakers : AreSpeakers a facts.speakers.items
  -- those with an anchor at or above them, from few labels to many
  pub parents : AreParents a facts.parents.items
