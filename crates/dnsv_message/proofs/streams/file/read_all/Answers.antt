use Rattle.std.proofs.Common.{◌∙◌, ◌≤◌, length, refl, arith}
use Rattle.std.proofs.lemmas.Result.{err_from_is_err_and}
use Rattle.dnsv_message.specs.declared.TheConstants.{FILE_LIMIT}
use Rattle.dnsv_message.proofs.FrameLemmas.FileLemmas.{nothing_read, nothing_within, piece_read, piece_within, file_too_long, file_read, unread_octets_stop, stops_before, stops_behind, ReadsStream-ended, ReadsStream-fault, ReadsStream-failed}
use Rattle.dnsv_message.proofs.streams.file.read_all.Goals as goal

pub loop-octets-init : goal.loop-octets-init
loop-octets-init g c = record {
  room = omega (arith, c.as_mut_slice-piece.ensures.len, c.in_ok-buffer.ensures.len);
  piece = omega (arith, c.as_mut_slice-piece.ensures.len, c.in_ok-buffer.ensures.len);
  none_failed = refl;
  read = nothing_read _ _ c.new-octets.ensures.items;
  within = nothing_within _ FILE_LIMIT c.new-octets.ensures.items;
}

pub loop-octets-preserved : goal.loop-octets-preserved
loop-octets-preserved g c = record {
  room = omega (arith, c.loop-octets.invariant.room, c.read_piece.auto.piece);
  piece = omega (arith, c.loop-octets.invariant.piece, c.read_piece.auto.piece);
  none_failed = c.in_ok-count.ensures.failures ∙ c.loop-octets.invariant.none_failed;
  read = piece_read _ _ _ c.loop-octets.octets.items _ _ c.loop-octets.invariant.read c.in_ok-count.ensures.bytes.0 c.in_ok-extend_from_slice.ensures.items;
  within = piece_within c.loop-octets.octets.items c.read_piece.new.piece _ c.in_ok-count.count FILE_LIMIT (omega (arith, c.in_ok-count.ensures.bound.0))
      c.loop-octets.invariant.within (omega (arith, c.if-count-len.false, c.len.ensures)) c.in_ok-extend_from_slice.ensures.items;
}

pub returns-then-count-len-clause-too_long :
    goal.returns-then-count-len-clause-too_long
returns-then-count-len-clause-too_long g c = λ _.
    file_too_long _ _ _ c.loop-octets.octets.items c.read_piece.new.piece c.in_ok-count.count FILE_LIMIT c.loop-octets.invariant.read c.in_ok-count.ensures.bytes.0
    (omega (arith, c.in_ok-count.ensures.bound.0)) c.loop-octets.invariant.within (omega (arith, c.if-count-len.true, c.len.ensures))

pub returns-clause-octets : goal.returns-clause-octets
returns-clause-octets g c =
    file_read _ _ _ c.loop-octets.octets.items c.read_piece.new.piece c.in_ok-count.count c.loop-octets.invariant.read c.in_ok-count.ensures.bytes.0 c.if-count-eq0.true
    (c.in_ok-count.ensures.bytes.1 c.if-count-eq0.true (omega (arith, c.loop-octets.invariant.room, c.read_piece.auto.piece)))

pub returns-in_err-buffer-clause-stream : goal.returns-in_err-buffer-clause-stream
returns-in_err-buffer-clause-stream g c =
    let p = err_from_is_err_and c.from_residual.result c.from_residual.ensures.1 in
    rw p.1 (ReadsStream-fault (λ octets. length octets ≤ FILE_LIMIT) p.0 (λ is. let same = p.2 in cc) refl (unread_octets_stop FILE_LIMIT 4096 _))

pub returns-in_err-count-clause-stream : goal.returns-in_err-count-clause-stream
returns-in_err-count-clause-stream g c =
    let p = err_from_is_err_and c.from_residual-in_err-count.result c.from_residual-in_err-count.ensures.1 in
    rw (p.1, p.2, c.in_err-count.ensures.only) (ReadsStream-failed (λ octets. length octets ≤ FILE_LIMIT) _ c.loop-octets.invariant.none_failed c.in_err-count.ensures.failures
    (stops_before (λ octets. length octets ≤ FILE_LIMIT) 0 _ _ _ c.loop-octets.octets.items c.loop-octets.invariant.within c.loop-octets.invariant.read c.in_err-count.ensures.bytes))

pub returns-then-count-len-clause-stream : goal.returns-then-count-len-clause-stream
returns-then-count-len-clause-stream g c =
    ReadsStream-fault (λ octets. length octets ≤ FILE_LIMIT) _ (λ is. cc) (c.in_ok-count.ensures.failures ∙ c.loop-octets.invariant.none_failed)
    (stops_behind (λ octets. length octets ≤ FILE_LIMIT) 4096 _ _ _ c.loop-octets.octets.items c.read_piece.new.piece c.in_ok-count.count c.loop-octets.invariant.within
    c.loop-octets.invariant.read c.in_ok-count.ensures.bytes.0 (omega (arith, c.in_ok-count.ensures.bound.0)) (omega (arith, c.loop-octets.invariant.piece, c.read_piece.auto.piece)))

pub returns-in_err-extend_from_slice-clause-stream : goal.returns-in_err-extend_from_slice-clause-stream
returns-in_err-extend_from_slice-clause-stream g c =
    let p = err_from_is_err_and c.from_residual-in_err-extend_from_slice.result c.from_residual-in_err-extend_from_slice.ensures.1 in
    rw p.1 (ReadsStream-fault (λ octets. length octets ≤ FILE_LIMIT) p.0 (λ is. let same = p.2 in cc) (c.in_ok-count.ensures.failures ∙ c.loop-octets.invariant.none_failed)
    (stops_behind (λ octets. length octets ≤ FILE_LIMIT) 4096 _ _ _ c.loop-octets.octets.items c.read_piece.new.piece c.in_ok-count.count c.loop-octets.invariant.within
    c.loop-octets.invariant.read c.in_ok-count.ensures.bytes.0 (omega (arith, c.in_ok-count.ensures.bound.0)) (omega (arith, c.loop-octets.invariant.piece, c.read_piece.auto.piece))))

pub returns-clause-stream : goal.returns-clause-stream
returns-clause-stream g c =
    ReadsStream-ended (λ octets. length octets ≤ FILE_LIMIT) _ (c.in_ok-count.ensures.failures ∙ c.loop-octets.invariant.none_failed)
    (c.in_ok-count.ensures.bytes.1 c.if-count-eq0.true (omega (arith, c.loop-octets.invariant.room, c.read_piece.auto.piece)))
    (stops_behind (λ octets. length octets ≤ FILE_LIMIT) 4096 _ _ _ c.loop-octets.octets.items c.read_piece.new.piece c.in_ok-count.count c.loop-octets.invariant.within
    c.loop-octets.invariant.read c.in_ok-count.ensures.bytes.0 (omega (arith, c.in_ok-count.ensures.bound.0)) (omega (arith, c.loop-octets.invariant.piece, c.read_piece.auto.piece)))
