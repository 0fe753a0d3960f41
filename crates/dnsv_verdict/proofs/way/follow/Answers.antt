-- the verdict at the end, an alias that can't be followed, and a link more
use Rattle.std.proofs.Common.{map}
use Rattle.std.proofs.lemmas.Option.{MatchOption-at_none, MatchOption-at_some}
use Rattle.std.proofs.lemmas.Result.{IfErr-at_err, IfOk-at_ok}
use Rattle.dnsv_verdict.proofs.WayLemmas.FollowLemmas.{alias_there, counted_last, followed_more, followed_to_end, followed_to_stop}
use Rattle.dnsv_verdict.proofs.TrailLemmas.{kept_to_end, kept_to_stop, trail_more, unkept_more}
use Rattle.dnsv_verdict.proofs.way.follow.Goals as goal

pub returns-in_default-clause-end : goal.returns-in_default-clause-end
returns-in_default-clause-end c =
    let case = c.args.case.now in
    followed_to_end case.rrsets case.anchors case.table c.args.rtype.0 c.args.name.now c.args.hashed.now c.links.hashed
    c.links.way.links c.links.way.last c.in_ok-verdict.verdict c.links.invariant.0 c.in_ok-verdict.ensures.value
    (MatchOption-at_none _ _ c.in_default.is c.alias_of.ensures)

pub returns-in_default-clause-kept : goal.returns-in_default-clause-kept
returns-in_default-clause-kept c =
    kept_to_end c.args.case.now c.args.rtype.0 c.links.way.links c.links.way.last c.in_ok-verdict.verdict c.args.trail.now c.links.trail
    c.verdict_at.new.trail c.links.invariant.1 c.in_ok-verdict.ensures.kept

pub returns-in_default-clause-unkept : goal.returns-in_default-clause-unkept
returns-in_default-clause-unkept c =
    unkept_more c.args.case.now c.args.rtype.0 (map (λ link. link.name) c.links.way.links) c.links.way.last c.in_ok-verdict.verdict c.args.trail.now
    c.links.trail c.verdict_at.new.trail c.links.invariant.1 c.in_ok-verdict.ensures.kept

pub returns-in-Err-clause-end : goal.returns-in-Err-clause-end
returns-in-Err-clause-end c =
    let case = c.args.case.now in
    let last = c.links.way.last in
    let k = c.in-Some.alias.0 in
    let s = c.in-Some.alias.1 in
    let alias = alias_there case.rrsets case.anchors case.table last c.args.rtype.0 c.in_ok-verdict.verdict k s (MatchOption-at_some _ _ c.in-Some.alias c.in-Some.is c.alias_of.ensures) c.in_ok-verdict.ensures.value in
    followed_to_stop case.rrsets case.anchors case.table c.args.rtype.0 c.args.name.now c.args.hashed.now
    c.links.hashed c.links.way.links last k s c.in-Err.error c.links.invariant.0 alias (IfErr-at_err _ c.in-Err.is c.next_name.ensures.stops)

pub returns-in-Err-clause-kept : goal.returns-in-Err-clause-kept
returns-in-Err-clause-kept c =
    kept_to_stop c.args.case.now c.args.rtype.0 c.links.way.links c.links.way.last c.in-Some.alias.0 c.in-Some.alias.1 c.in_ok-verdict.verdict
    c.args.trail.now c.links.trail c.verdict_at.new.trail
    (MatchOption-at_some _ _ c.in-Some.alias c.in-Some.is c.alias_of.ensures) c.links.invariant.1 c.in_ok-verdict.ensures.kept

pub returns-in-Err-clause-unkept : goal.returns-in-Err-clause-unkept
returns-in-Err-clause-unkept c =
    unkept_more c.args.case.now c.args.rtype.0 (map (λ link. link.name) c.links.way.links) c.links.way.last c.in_ok-verdict.verdict c.args.trail.now
    c.links.trail c.verdict_at.new.trail c.links.invariant.1 c.in_ok-verdict.ensures.kept

pub links-preserved : goal.links-preserved
links-preserved c =
    let case = c.args.case.now in
    let last = c.links.way.last in
    let k = c.in-Some.alias.0 in
    let s = c.in-Some.alias.1 in
    let target = c.in-Ok.target in
    let alias = alias_there case.rrsets case.anchors case.table last c.args.rtype.0 c.in_ok-verdict.verdict k s (MatchOption-at_some _ _ c.in-Some.alias c.in-Some.is c.alias_of.ensures) c.in_ok-verdict.ensures.value in
    let is = MatchOption-at_some _ _ c.in-Some.alias c.in-Some.is c.alias_of.ensures in
    rw (c.longer-way.ensures.links, c.longer-way.ensures.last) (
      followed_more case.rrsets case.anchors case.table c.args.rtype.0 c.args.name.now c.args.hashed.now c.links.hashed
          c.verdict_at.new.hashed c.links.way.links last k s target c.links.invariant.0 alias
          (counted_last case.rrsets c.links.way.links last c.args.hashed.now c.links.hashed c.verdict_at.new.hashed
          c.counts_add_up.ensures.twice c.links.invariant.0.counts c.in_ok-verdict.ensures.hashed)
          (IfOk-at_ok _ c.in-Ok.is c.next_name.ensures.target) (IfOk-at_ok _ c.in-Ok.is c.next_name.ensures.new)
          (IfOk-at_ok _ c.in-Ok.is c.next_name.ensures.few) (IfOk-at_ok _ c.in-Ok.is c.next_name.ensures.question),
      trail_more case c.args.rtype.0 c.links.way.links last k s c.in_ok-verdict.verdict c.args.trail.now c.links.trail c.verdict_at.new.trail is
          c.links.invariant.1 c.in_ok-verdict.ensures.kept,
      c.in_ok-verdict.ensures.shared,
    )
