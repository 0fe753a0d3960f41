-- Of questions that are alike the same is found and told.
use Rattle.std.proofs.Common.{◌≡◌, ◌++◌, not, if◌then◌else◌, List, [], ◌∷◌, Option, Some, None, map}
use Rattle.std.specs.List.{AllZip}
use Rattle.dnsv_lines.specs.declared.line.fault.zone.WhyZone.TheVariants as why
use Rattle.dnsv_mending.specs.Level.{Leveled, zone_above}
use Rattle.dnsv_mending.specs.Mend.{is_none}
use Rattle.dnsv_mending.specs.Zone.{levels_of}
use Rattle.dnsv_mending.specs.declared.facts.zone.ZoneFacts.{ZoneFacts}
use Rattle.dnsv_mending.specs.declared.told.Told.TheVariants as told
use Rattle.dnsv_remedies.specs.Answers.{goal_ways}
use Rattle.dnsv_remedies.specs.Cuts.{parent_ways}
use Rattle.dnsv_remedies.specs.Question.{all_lines, answer_or_denial, dname_line, is_below_dname, lines_told, once, question_remedy, question_ways, reasons_from}
use Rattle.dnsv_remedies.specs.Remedy.{Remedied, least}
use Rattle.dnsv_remedies.specs.declared.facts.question.QuestionFacts.{QuestionFacts}
use Rattle.dnsv_remedies.specs.declared.said.Said.TheVariants as said
use Rattle.dnsv_remedy_laws.specs.AlikeQuestions.{AreAlikeGoals, AreAlikeParents, AreAlikeQuestions}
use Rattle.dnsv_remedy_laws.specs.AlikeZones.{AreAlikeZones}
use Rattle.dnsv_remedy_laws.proofs.Answers.{goal_ways-alike}
use Rattle.dnsv_remedy_laws.proofs.Cuts.{parent_ways-alike}
use Rattle.dnsv_remedy_laws.proofs.Denials.{denial_ways-alike}
use Rattle.dnsv_remedy_laws.proofs.Lists.{flat_map-alike, is_none-alike}
use Rattle.dnsv_remedy_laws.proofs.Zones.{levels_of-alike}

-- ---- what is found

is_below_dname-alike : (a b : QuestionFacts) → AreAlikeQuestions a b → is_below_dname a ≡ is_below_dname b
is_below_dname-alike a b e = λ i. not (is_none (e.dnames i))

answer_or_denial-alike : (levels : List Leveled) (a b : QuestionFacts) → AreAlikeQuestions a b
    → answer_or_denial levels a ≡ answer_or_denial levels b
answer_or_denial-alike levels a b e = λ i.
    if is_none-alike AreAlikeGoals a.goals.items b.goals.items e.goals i
    then denial_ways-alike levels (e.labels i) (is_below_dname-alike a b e i) a.speakers.items b.speakers.items e.speakers i
    else flat_map-alike AreAlikeGoals (goal_ways levels (zone_above levels) (is_below_dname-alike a b e i))
    (goal_ways levels (zone_above levels) (is_below_dname-alike a b e i))
    (goal_ways-alike levels (zone_above levels) (is_below_dname-alike a b e i)) a.goals.items b.goals.items e.goals i

question_ways-alike : (levels : List Leveled) (a b : QuestionFacts) → AreAlikeQuestions a b
    → question_ways levels a ≡ question_ways levels b
question_ways-alike levels a b e = λ i. answer_or_denial-alike levels a b e i
    ++ flat_map-alike AreAlikeParents (parent_ways levels) (parent_ways levels) (parent_ways-alike levels)
    a.parents.items b.parents.items e.parents i

pub question_remedy-alike : (levels : List Leveled) (a b : QuestionFacts) → AreAlikeQuestions a b
    → question_remedy levels a ≡ question_remedy levels b
question_remedy-alike levels a b e = λ i. least (question_ways-alike levels a b e i)

-- ---- what is told

all_lines-alike : (m : Option Remedied) (a b : QuestionFacts) → AreAlikeQuestions a b → all_lines a m ≡ all_lines b m
all_lines-alike None a b e = λ i. map dname_line (e.dnames i)
all_lines-alike (Some m) a b e = λ i. (m.chain ++ map dname_line (e.dnames i)) ++ m.own

lines_told-alike : (m : Option Remedied) (a b : QuestionFacts) → AreAlikeQuestions a b → lines_told a m ≡ lines_told b m
lines_told-alike m a b e = λ i. if e.is_anchored i then once (all_lines-alike m a b e i)
    else reasons_from (said.Trust (told.Zone why.NoAnchor (e.labels i)) ∷ []) (all_lines-alike m a b e i)

pub told-alike : (zones others : List ZoneFacts) (a b : QuestionFacts) → AllZip AreAlikeZones zones others → AreAlikeQuestions a b
    → lines_told a (question_remedy (levels_of a.is_anchored zones) a) ≡ lines_told b (question_remedy (levels_of b.is_anchored others) b)
told-alike zones others a b alike e = λ i.
    lines_told-alike (question_remedy-alike (levels_of-alike (e.is_anchored i) zones others alike i) a b e i) a b e i
