use Rattle.std.proofs.Common.{◌∙◌, sym, ap, ◌+◌, ◌-◌, ◌++◌, take, drop, arith}
use Rattle.dnsv_message.proofs.FollowLemmas.PieceLemmas.{root_passed, label_passed}
use Rattle.dnsv_message.proofs.rdata_ref.pieces.Pieces.next_piece.Goals as goal

pub returns-then-octets-place-eq0-clause-same : goal.returns-then-octets-place-eq0-clause-same
returns-then-octets-place-eq0-clause-same c =
    sym c.self.view_is
    ∙ root_passed c.self.inside.names c.self.inside.octets.now c.self.inside.place c.self.inside.behind c.self.inside.limit
    (omega (arith, c.if-self-eq0.false)) c.self.invariant (omega (arith, c.if-octets-place-eq0.true))
    ∙ ap (λ rest. take (c.self.inside.place + 1 - c.self.inside.place) (drop c.self.inside.place c.self.inside.octets.now) ++ rest)
    (sym c.new.ensures ∙ sym c.self-then-octets-place-eq0.view_is)

pub returns-clause-same : goal.returns-clause-same
returns-clause-same c =
    sym c.self.view_is
    ∙ label_passed c.self.inside.names c.self.inside.octets.now c.self.inside.place c.self.inside.behind c.self.inside.limit c.next_label-self-inside.result
    (omega (arith, c.if-self-eq0.false)) c.self.invariant (omega (arith, c.if-octets-place-eq0.false)) c.next_label-self-inside.ensures.labels
