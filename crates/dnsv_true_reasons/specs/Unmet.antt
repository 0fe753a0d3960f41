-- When nothing that is found proves a question.
use Rattle.std.specs.Prelude.{List}
use Rattle.dnsv_zone_faults.specs.Zones.{AreZoneFacts}
use Rattle.dnsv_gaps.specs.Asking.{Asking}
use Rattle.dnsv_gaps.specs.questions.Questions.{AreQuestionFacts}
use Rattle.dnsv_mending.specs.declared.facts.zone.ZoneFacts.{ZoneFacts}
use Rattle.dnsv_remedies.specs.Reasons.{IsProved}
use Rattle.dnsv_remedies.specs.declared.facts.question.QuestionFacts.{QuestionFacts}

-- by what is found the question is neither answered nor denied, nor below an unsigned delegation
abbrev pub IsUnproved : Asking → Type 0
IsUnproved a = (zones : List ZoneFacts) (q : QuestionFacts) → AreZoneFacts a.basis a.name a.rtype zones → AreQuestionFacts a q
    → ¬ IsProved zones q
