-- What fails, where nothing answers a question: what is told by what is so of its zones and of what may answer or deny it.
use Rattle.std.specs.Prelude.{◌≡◌, List}
use Rattle.dnsv_zone_faults.specs.Zones.{AreZoneFacts}
pub use Rattle.dnsv_gaps.specs.Asking.{Asking, asking_of}
use Rattle.dnsv_gaps.specs.questions.Questions.{AreQuestionFacts}
use Rattle.dnsv_lines.specs.declared.line.Line.{Line}
use Rattle.dnsv_mending.specs.Zone.{levels_of}
use Rattle.dnsv_mending.specs.declared.facts.zone.ZoneFacts.{ZoneFacts}
use Rattle.dnsv_remedies.specs.Question.{lines_told, question_remedy}
use Rattle.dnsv_remedies.specs.declared.facts.question.QuestionFacts.{QuestionFacts}
use Rattle.dnsv_remedies.specs.declared.said.Said.{Said}
use Rattle.dnsv_reasons.specs.Lines.{AreSaidLines}

-- what is told of the least that has to be mended, by these facts
pub record AreToldOf (a : Asking) (told : List Said) : Type 0 where
  pub zones : List ZoneFacts
  pub of_zones : AreZoneFacts a.basis a.name a.rtype zones
  pub question : QuestionFacts
  pub of_question : AreQuestionFacts a question
  pub are : told ≡ lines_told question (question_remedy (levels_of question.is_anchored zones) question)

-- the lines that say it
pub record AreFailures (a : Asking) (lines : List Line) : Type 0 where
  pub told : List Said
  pub are_told : AreToldOf a told
  pub said : AreSaidLines a told lines
