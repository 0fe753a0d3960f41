use Rattle.std.proofs.Common.{◌++◌, sym, ◌∙◌}
use Rattle.std.specs.Cmp.Lexicographic.{bytes_decides}
use Rattle.std.proofs.lemmas.Bool.Decides.{same_from_decides}
use Rattle.dnsv_message.proofs.FollowLemmas.PieceLemmas.{none_left, passed, differ}
use Rattle.dnsv_message.proofs.rdata_ref.RdataRefPartialEq.eq.Goals as goal

pub returns-then-both-eq0-clause-same : goal.returns-then-both-eq0-clause-same
returns-then-both-eq0-clause-same c =
    none_left c.args.self.now c.args.other.now (c.pieces.own.now ++ c.pieces.own_rest) (c.pieces.others.now ++ c.pieces.others_rest)
    c.filled-own.result.now c.filled-own.new.self c.filled-others.result.now c.filled-others.new.self
    c.pieces.invariant c.filled-own.ensures.same c.filled-others.ensures.same c.filled-own.ensures.end c.filled-others.ensures.end
    (sym c.min-both.ensures ∙ c.if-both-eq0.true)

pub returns-then-both-eq0-clause-value : goal.returns-then-both-eq0-clause-value
returns-then-both-eq0-clause-value c = same_from_decides _ _ (returns-then-both-eq0-clause-same c) (bytes_decides c.args.self.now c.args.other.now)

pub returns-then-ne-clause-same : goal.returns-then-ne-clause-same
returns-then-ne-clause-same c =
    differ c.args.self.now c.args.other.now (c.pieces.own.now ++ c.pieces.own_rest) (c.pieces.others.now ++ c.pieces.others_rest)
    c.filled-own.result.now c.filled-own.new.self c.filled-others.result.now c.filled-others.new.self
    c.pieces.invariant c.filled-own.ensures.same c.filled-others.ensures.same c.min-both.result c.min-both.ensures c.if-ne.ensures

pub returns-then-ne-clause-value : goal.returns-then-ne-clause-value
returns-then-ne-clause-value c = same_from_decides _ _ (returns-then-ne-clause-same c) (bytes_decides c.args.self.now c.args.other.now)

pub pieces-preserved : goal.pieces-preserved
pieces-preserved c =
    passed c.args.self.now c.args.other.now (c.pieces.own.now ++ c.pieces.own_rest) (c.pieces.others.now ++ c.pieces.others_rest)
    c.filled-own.result.now c.filled-own.new.self c.filled-others.result.now c.filled-others.new.self
    c.pieces.invariant c.filled-own.ensures.same c.filled-others.ensures.same c.min-both.result c.min-both.ensures c.if-ne.ensures
