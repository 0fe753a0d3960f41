use Rattle.std.proofs.Common.{List, map, ap, ◌∙◌}
use Rattle.dnsv_mending.specs.Level.{Leveled, seen_level}
use Rattle.dnsv_mending.specs.Zone.{levels_of}
use Rattle.dnsv_mending.specs.declared.facts.zone.ZoneFacts.{ZoneFacts}
use Rattle.dnsv_mending.specs.declared.level.Level.{Level}
use Rattle.dnsv_remedies.specs.Question.{lines_told, question_remedy}
use Rattle.dnsv_reasons.proofs.failing.told.Goals as goal

pub returns : goal.returns
returns c =
    let zones = c.in_ok-zones.zones.items in
    let question = c.in_ok-question.question in record {
      zones = zones;
      of_zones = c.in_ok-zones.ensures;
      question = question;
      of_question = c.in_ok-question.ensures;
      are = c.in_ok-lines.ensures
          ∙ ap (lines_told question) (c.in_ok-remedy.ensures
          ∙ ap (λ (levels : List Leveled). question_remedy levels question)
          (ap (λ (levels : List Level). map seen_level levels) c.deref-2.ensures.value ∙ c.in_ok-levels.ensures
          ∙ ap (λ (all : List ZoneFacts). levels_of question.is_anchored all) c.deref.ensures.value));
    }
