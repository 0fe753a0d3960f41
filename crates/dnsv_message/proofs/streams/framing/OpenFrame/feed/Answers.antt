use Rattle.std.proofs.Common.{arith}
use Rattle.std.proofs.lemmas.List.{take_rest, length-drop}
use Rattle.std.proofs.lemmas.Result.{err_from_is_err_and}
use Rattle.dnsv_message.proofs.FrameLemmas.{Gains-next, Gains-last, Gains-given_up}
use Rattle.dnsv_message.proofs.streams.framing.OpenFrame.feed.Goals as goal

pub loop-place-preserved : goal.loop-place-preserved
loop-place-preserved c = record {
  within = omega (arith, rw (take_rest, length-drop) at (c.in_ok-place.ensures.within));
  gains = Gains-next _ _ _ c.args.self.now c.args.piece.now _ _ c.loop-place.place c.in_ok-place.field-0 c.loop-place.invariant.gains c.in_ok-place.ensures.ok;
  not_zero = c.in_ok-place.ensures.not_zero;
  bounded = c.in_ok-place.ensures.bound;
}

pub returns-in_err-place-clause-zero_length : goal.returns-in_err-place-clause-zero_length
returns-in_err-place-clause-zero_length c = λ is_zero.
    let p = err_from_is_err_and c.from_residual.result c.from_residual.ensures.1 in
    let found = c.in_err-place.ensures.zero_length (let is = p.1 in let same = p.2 in cc) in
    (found.0, found.1, Gains-last _ _ _ c.args.self.now c.args.piece.now _ _ c.loop-place.place c.loop-place.invariant.gains found.2)

pub returns-in_err-place-clause-out_of_memory :
    goal.returns-in_err-place-clause-out_of_memory
returns-in_err-place-clause-out_of_memory c = λ refused.
    let p = err_from_is_err_and c.from_residual.result c.from_residual.ensures.1 in
    Gains-given_up _ _ _ c.args.self.now c.args.piece.now _ c.loop-place.place c.loop-place.invariant.gains
    (c.in_err-place.ensures.out_of_memory (let is = p.1 in let same = p.2 in cc))
