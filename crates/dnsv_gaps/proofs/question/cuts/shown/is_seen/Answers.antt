use Rattle.std.proofs.lemmas.Bool.{false≢true}
use Rattle.dnsv_gaps.specs.Asking.{asking}
use Rattle.dnsv_gaps.specs.SourceSearch.{zone_in}
use Rattle.dnsv_gaps.proofs.QuestionLemmas.CutLemmas.{by_both, seen_above, seen_alone, seen_beyond, seen_next}
use Rattle.dnsv_gaps.proofs.question.cuts.shown.is_seen.Goals as goal

pub returns-in_default : goal.returns-in_default
returns-in_default c =
    let parent = c.args.parent.now in
    let question = parent.question.now in
    by_both _ _ _ c.in_ok-is_seen_here.ensures
    (seen_alone (asking question) (zone_in question parent.labels) c.args.name parent.next c.in_default.is)

pub returns-then-name-next : goal.returns-then-name-next
returns-then-name-next c =
    let parent = c.args.parent.now in
    let question = parent.question.now in
    by_both _ _ _ c.in_ok-is_seen_here-2.ensures
    (seen_above (asking question) (zone_in question parent.labels) c.args.name parent.next c.in-Some.next c.in-Some.is c.if-name-next.true)

pub returns-then-name-next-2 : goal.returns-then-name-next-2
returns-then-name-next-2 c =
    let parent = c.args.parent.now in
    let question = parent.question.now in (
      λ yes. absurd (false≢true yes),
      λ seen. absurd (seen_beyond (asking question) (zone_in question parent.labels) c.args.name parent.next c.in-Some.next c.in-Some.is
          c.if-name-next-2.true seen),
    )

pub returns : goal.returns
returns c =
    let parent = c.args.parent.now in
    let question = parent.question.now in
    by_both _ _ _ c.in_ok-is_seen_unsigned.ensures
    (seen_next (asking question) (zone_in question parent.labels) c.args.name parent.next c.in-Some.next c.in-Some.is c.if-name-next.false
    c.if-name-next-2.false)
