-- Facts of a question whose zones are there.
use Rattle.std.specs.Prelude.{◌≡◌, ◌<◌, List, false, length}
use Rattle.dnsv_mending.specs.InPlace.{IsSignerInPlace}
use Rattle.dnsv_mending.specs.Ways.{IsAmong}
use Rattle.dnsv_mending.specs.declared.facts.zone.ZoneFacts.{ZoneFacts}
use Rattle.dnsv_remedies.specs.declared.facts.answer.AnswerSignature.{AnswerSignature}
use Rattle.dnsv_remedies.specs.declared.facts.answer.GoalFacts.{GoalFacts}
use Rattle.dnsv_remedies.specs.declared.facts.denial.SpeakerFacts.{SpeakerFacts}
use Rattle.dnsv_remedies.specs.declared.facts.question.QuestionFacts.{QuestionFacts}

-- the signers of what may answer, where they may be its zone, and the zones that may deny
pub record IsQuestionInPlace (zones : List ZoneFacts) (q : QuestionFacts) : Type 0 where
  pub signers : (g : GoalFacts) (s : AnswerSignature) → IsAmong g q.goals.items → IsAmong s g.signatures.items
      → s.signature.faults.signer ≡ false → IsSignerInPlace zones (length zones) s.signature
  pub speakers : (z : SpeakerFacts) → IsAmong z q.speakers.items → z.labels < length zones
