use Rattle.std.proofs.Common.{ap, ◌∙◌, refl, arith}
use Rattle.std.proofs.lemmas.Result.{err_from_is_err_and}
use Rattle.dnsv_message.specs.Streams.Frames.{HasNoFault, octets_at_each}
use Rattle.dnsv_message.proofs.FrameLemmas.CaptureLemmas.{HasRead-start, HasRead-more, HasRead-end, HasRead-zero, HasRead-too_long, HasRead-stops_before, HasRead-stops_behind, unread_frames_stop, nothing_not_zero}
use Rattle.dnsv_message.proofs.FrameLemmas.FileLemmas.{ReadsStream-ended, ReadsStream-fault, ReadsStream-failed}
use Rattle.dnsv_message.proofs.FrameLemmas.FramerLemmas.{Gains-open, Gains-zero, piece_not_read, torn_end}
use Rattle.dnsv_message.proofs.streams.capture.read_capture.Goals as goal

pub loop-framer-init : goal.loop-framer-init
loop-framer-init g c = record {
  room = omega (arith, c.as_mut_slice-piece.ensures.len, c.in_ok-buffer.ensures.len);
  piece = omega (arith, c.as_mut_slice-piece.ensures.len, c.in_ok-buffer.ensures.len);
  none_failed = refl;
  read = HasRead-start _ _ _ _ (ap octets_at_each c.new-messages.ensures.items) c.new-framer.ensures.rest refl;
  no_fault = c.new-framer.ensures.fault;
  not_zero = rw c.new-framer.ensures.rest nothing_not_zero;
}

pub returns-in_err-place_whole-clause-zero_length : goal.returns-in_err-place_whole-clause-zero_length
returns-in_err-place_whole-clause-zero_length g c = λ is_zero.
    let p = err_from_is_err_and c.from_residual-in_err-place_whole.result c.from_residual-in_err-place_whole.ensures.1 in
    let found = Gains-zero _ _ _ _ _ (c.in_err-place_whole.ensures.zero_length (let is = p.1 in let same = p.2 in cc)).1 (c.in_err-place_whole.ensures.zero (let is = p.1 in let same = p.2 in cc)) in
    HasRead-zero _ _ _ _ _ _ _ c.read_piece.new.piece c.loop-framer.left c.in_ok-count.count c.min-within.result c.loop-framer.invariant.read c.in_ok-count.ensures.bytes.0
    (omega (arith, c.min-within.ensures)) (omega (arith, c.in_ok-count.ensures.bound.0)) (omega (arith, c.min-within.ensures)) found.2 found.1

pub returns-then-within-count-clause-too_long : goal.returns-then-within-count-clause-too_long
returns-then-within-count-clause-too_long g c = λ _.
    HasRead-too_long _ _ _ _ _ _ _ c.read_piece.new.piece c.loop-framer.left c.in_ok-count.count c.min-within.result c.loop-framer.invariant.read c.in_ok-count.ensures.bytes.0
    (omega (arith, c.if-within-count.true)) (omega (arith, c.in_ok-count.ensures.bound.0)) (omega (arith, c.min-within.ensures, c.if-within-count.true)) (Gains-open _ _ _ _ _ c.in_ok-place_whole.ensures.ok c.in_ok-place_whole.ensures.not_zero) c.in_ok-place_whole.ensures.not_zero

pub loop-framer-preserved : goal.loop-framer-preserved
loop-framer-preserved g c = record {
  room = omega (arith, c.loop-framer.invariant.room, c.read_piece.auto.piece);
  piece = omega (arith, c.loop-framer.invariant.piece, c.read_piece.auto.piece);
  none_failed = c.in_ok-count.ensures.failures ∙ c.loop-framer.invariant.none_failed;
  read = HasRead-more _ _ _ _ _ _ _ c.read_piece.new.piece c.loop-framer.left c.in_ok-count.count c.min-within.result c.loop-framer.invariant.read c.in_ok-count.ensures.bytes.0
      (omega (arith, c.if-within-count.false)) (omega (arith, c.min-within.ensures)) (omega (arith, c.in_ok-count.ensures.bound.0)) (omega (arith, c.min-within.ensures)) (Gains-open _ _ _ _ _ c.in_ok-place_whole.ensures.ok c.in_ok-place_whole.ensures.not_zero);
  no_fault = c.in_ok-place_whole.ensures.no_fault;
  not_zero = c.in_ok-place_whole.ensures.not_zero;
}

pub returns-in_err-finish-clause-torn_frame : goal.returns-in_err-finish-clause-torn_frame
returns-in_err-finish-clause-torn_frame g c = λ is_torn.
    let torn = torn_end _ _ c.loop-framer.invariant.no_fault c.in_err-finish.ensures in
    HasRead-end _ _ _ _ _ c.read_piece.new.piece c.loop-framer.left c.in_ok-count.count _ c.loop-framer.invariant.read c.in_ok-count.ensures.bytes.0 c.if-count-eq0.true
    (c.in_ok-count.ensures.bytes.1 c.if-count-eq0.true (omega (arith, c.loop-framer.invariant.room, c.read_piece.auto.piece)))
    (λ octets within frames. (within, (octets_at_each c.loop-framer.messages.items, c.loop-framer.framer.rest, frames, torn.1, torn.2)))

pub returns-clause-messages : goal.returns-clause-messages
returns-clause-messages g c =
    HasRead-end _ _ _ _ _ c.read_piece.new.piece c.loop-framer.left c.in_ok-count.count _ c.loop-framer.invariant.read c.in_ok-count.ensures.bytes.0 c.if-count-eq0.true
    (c.in_ok-count.ensures.bytes.1 c.if-count-eq0.true (omega (arith, c.loop-framer.invariant.room, c.read_piece.auto.piece)))
    (λ octets within frames. record { within = within; frames = rw c.in_ok-finish.ensures.1 at frames })

pub returns-in_err-finish-clause-too_long : goal.returns-in_err-finish-clause-too_long
returns-in_err-finish-clause-too_long g c = λ is_it.
    let p = err_from_is_err_and c.from_residual-in_err-finish.result c.from_residual-in_err-finish.ensures.1 in
    let torn = (torn_end _ _ c.loop-framer.invariant.no_fault c.in_err-finish.ensures).0 in
    absurd (let is = p.1 in let same = p.2 in cc)

pub returns-in_err-finish-clause-zero_length : goal.returns-in_err-finish-clause-zero_length
returns-in_err-finish-clause-zero_length g c = λ is_it.
    let p = err_from_is_err_and c.from_residual-in_err-finish.result c.from_residual-in_err-finish.ensures.1 in
    let torn = (torn_end _ _ c.loop-framer.invariant.no_fault c.in_err-finish.ensures).0 in
    absurd (let is = p.1 in let same = p.2 in cc)

pub returns-in_err-buffer-clause-stream : goal.returns-in_err-buffer-clause-stream
returns-in_err-buffer-clause-stream g c =
    let p = err_from_is_err_and c.from_residual.result c.from_residual.ensures.1 in
    rw p.1 (ReadsStream-fault HasNoFault p.0 (λ is. let same = p.2 in cc) refl (unread_frames_stop 4096 _))

pub returns-in_err-count-clause-stream : goal.returns-in_err-count-clause-stream
returns-in_err-count-clause-stream g c =
    let p = err_from_is_err_and c.from_residual-in_err-count.result c.from_residual-in_err-count.ensures.1 in
    rw (p.1, p.2, c.in_err-count.ensures.only) (ReadsStream-failed HasNoFault _ c.loop-framer.invariant.none_failed c.in_err-count.ensures.failures
    (HasRead-stops_before 0 _ _ _ _ _ c.loop-framer.left c.loop-framer.invariant.read c.loop-framer.invariant.not_zero c.in_err-count.ensures.bytes))

pub returns-in_err-place_whole-clause-stream : goal.returns-in_err-place_whole-clause-stream
returns-in_err-place_whole-clause-stream g c =
    let p = err_from_is_err_and c.from_residual-in_err-place_whole.result c.from_residual-in_err-place_whole.ensures.1 in
    rw p.1 (ReadsStream-fault HasNoFault p.0 (λ is. let same = p.2 in piece_not_read c.in_err-place_whole.field-0.0 c.in_err-place_whole.ensures.only cc) (c.in_ok-count.ensures.failures ∙ c.loop-framer.invariant.none_failed)
    (HasRead-stops_behind 4096 _ _ _ _ _ c.read_piece.new.piece c.loop-framer.left c.in_ok-count.count c.loop-framer.invariant.read c.loop-framer.invariant.not_zero
    c.in_ok-count.ensures.bytes.0 (omega (arith, c.in_ok-count.ensures.bound.0)) (omega (arith, c.loop-framer.invariant.piece, c.read_piece.auto.piece))))

pub returns-then-within-count-clause-stream : goal.returns-then-within-count-clause-stream
returns-then-within-count-clause-stream g c =
    ReadsStream-fault HasNoFault _ (λ is. cc) (c.in_ok-count.ensures.failures ∙ c.loop-framer.invariant.none_failed)
    (HasRead-stops_behind 4096 _ _ _ _ _ c.read_piece.new.piece c.loop-framer.left c.in_ok-count.count c.loop-framer.invariant.read c.loop-framer.invariant.not_zero
    c.in_ok-count.ensures.bytes.0 (omega (arith, c.in_ok-count.ensures.bound.0)) (omega (arith, c.loop-framer.invariant.piece, c.read_piece.auto.piece)))

pub returns-in_err-finish-clause-stream : goal.returns-in_err-finish-clause-stream
returns-in_err-finish-clause-stream g c =
    let p = err_from_is_err_and c.from_residual-in_err-finish.result c.from_residual-in_err-finish.ensures.1 in
    let torn = (torn_end _ _ c.loop-framer.invariant.no_fault c.in_err-finish.ensures).0 in
    rw p.1 (ReadsStream-fault HasNoFault p.0 (λ is. let same = p.2 in cc) (c.in_ok-count.ensures.failures ∙ c.loop-framer.invariant.none_failed)
    (HasRead-stops_behind 4096 _ _ _ _ _ c.read_piece.new.piece c.loop-framer.left c.in_ok-count.count c.loop-framer.invariant.read c.loop-framer.invariant.not_zero
    c.in_ok-count.ensures.bytes.0 (omega (arith, c.in_ok-count.ensures.bound.0)) (omega (arith, c.loop-framer.invariant.piece, c.read_piece.auto.piece))))

pub returns-clause-stream : goal.returns-clause-stream
returns-clause-stream g c =
    ReadsStream-ended HasNoFault _ (c.in_ok-count.ensures.failures ∙ c.loop-framer.invariant.none_failed)
    (c.in_ok-count.ensures.bytes.1 c.if-count-eq0.true (omega (arith, c.loop-framer.invariant.room, c.read_piece.auto.piece)))
    (HasRead-stops_behind 4096 _ _ _ _ _ c.read_piece.new.piece c.loop-framer.left c.in_ok-count.count c.loop-framer.invariant.read c.loop-framer.invariant.not_zero
    c.in_ok-count.ensures.bytes.0 (omega (arith, c.in_ok-count.ensures.bound.0)) (omega (arith, c.loop-framer.invariant.piece, c.read_piece.auto.piece)))
