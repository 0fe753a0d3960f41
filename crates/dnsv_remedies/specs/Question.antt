-- The ways on which a question is answered, denied, or shown to be below an unsigned delegation, and what is told of it.
use Rattle.std.specs.Prelude.{List, [], ◌∷◌, ◌++◌, Option, Some, None, Bool, not, if◌then◌else◌, flat_map, map}
use Rattle.std.specs.List.{list_any}
use Rattle.dnsv_lines.specs.declared.line.fault.zone.WhyZone.TheVariants as why
use Rattle.dnsv_mending.specs.Level.{Leveled, zone_above}
use Rattle.dnsv_mending.specs.Mend.{is_none}
use Rattle.dnsv_mending.specs.declared.told.Told.TheVariants as told
use Rattle.dnsv_remedies.specs.Answers.{goal_ways}
use Rattle.dnsv_remedies.specs.Cuts.{parent_ways}
use Rattle.dnsv_remedies.specs.Denials.{denial_ways}
use Rattle.dnsv_remedies.specs.Remedy.{Remedied, least}
use Rattle.dnsv_remedies.specs.Said.{is_reason}
use Rattle.dnsv_remedies.specs.Same.{is_same}
use Rattle.dnsv_remedies.specs.declared.facts.question.DnameFacts.{DnameFacts}
use Rattle.dnsv_remedies.specs.declared.facts.question.QuestionFacts.{QuestionFacts}
use Rattle.dnsv_remedies.specs.declared.said.Said.{Said}
use Rattle.dnsv_remedies.specs.declared.said.Said.TheVariants as said

-- ---- ways

-- a name above owns a DNAME RRset
abbrev pub is_below_dname : QuestionFacts → Bool
is_below_dname q = not (is_none q.dnames.items)

-- an answer, where something may answer, or else a denial
abbrev pub answer_or_denial : List Leveled → QuestionFacts → List Remedied
answer_or_denial levels q = if is_none q.goals.items then denial_ways levels q.labels (is_below_dname q) q.speakers.items
    else flat_map (goal_ways levels (zone_above levels) (is_below_dname q)) q.goals.items

-- and behind these the unsigned delegations
abbrev pub question_ways : List Leveled → QuestionFacts → List Remedied
question_ways levels q = answer_or_denial levels q ++ flat_map (parent_ways levels) q.parents.items

-- the least that has to be mended
abbrev pub question_remedy : List Leveled → QuestionFacts → Option Remedied
question_remedy levels q = least (question_ways levels q)

-- ---- what is told

-- each line once, where it comes first
abbrev pub is_said : List Said → Said → Bool
is_said lines line = list_any (is_same line) lines

abbrev pub with_line : List Said → Said → List Said
with_line lines line = if is_said lines line then lines else lines ++ line ∷ []

abbrev pub once_from : List Said → List Said → List Said
once_from before [] = before
once_from before (line ∷ lines) = once_from (with_line before line) lines

abbrev pub once : List Said → List Said
once lines = once_from [] lines

-- a DNAME RRset above the name, of which nothing is made
unfoldable pub dname_line : DnameFacts → Said
dname_line d = said.Dname d

-- Without an anchor at or above the name that is told first, and what follows isn't told.
abbrev pub no_anchor : QuestionFacts → Said
no_anchor q = said.Trust (told.Zone why.NoAnchor q.labels)

abbrev pub with_reason : List Said → Said → List Said
with_reason lines line = if is_reason line then with_line lines line else lines

abbrev pub reasons_from : List Said → List Said → List Said
reasons_from before [] = before
reasons_from before (line ∷ lines) = reasons_from (with_reason before line) lines

-- the chain, the DNAME RRsets, and what is told of the thing itself
abbrev pub all_lines : QuestionFacts → Option Remedied → List Said
all_lines q None = map dname_line q.dnames.items
all_lines q (Some m) = (m.chain ++ map dname_line q.dnames.items) ++ m.own

abbrev pub lines_told : QuestionFacts → Option Remedied → List Said
lines_told q m = if q.is_anchored then once (all_lines q m) else reasons_from (no_anchor q ∷ []) (all_lines q m)
