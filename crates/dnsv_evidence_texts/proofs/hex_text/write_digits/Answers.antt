use Rattle.std.proofs.Common.{◌+◌, ◌*◌, slice_set, ◌∙◌, arith}
use Rattle.std.proofs.lemmas.List.{length-set}
use Rattle.hex.specs.Hex.{lower_digits}
use Rattle.hex.proofs.Pairs.{encode_step, encode_done}
use Rattle.dnsv_evidence_texts.proofs.hex_text.write_digits.Goals as goal

pub loop-place-preserved : goal.loop-place-preserved
loop-place-preserved c = (
  length-set (slice_set c.loop-place.digits (2 * c.loop-place.place) c.digit.result) (2 * c.loop-place.place + 1) c.digit-in-loop-place.result
      ∙ length-set c.loop-place.digits (2 * c.loop-place.place) c.digit.result ∙ c.loop-place.invariant.0,
  encode_step lower_digits c.args.octets.now c.loop-place.digits c.loop-place.place _ _ c.loop-place-test.true
      (omega (arith, c.loop-place.invariant.0, c.loop-place-test.true)) c.digit.ensures c.digit-in-loop-place.ensures c.loop-place.invariant.1,
)

pub returns : goal.returns
returns c = encode_done lower_digits c.args.octets.now c.loop-place.digits c.loop-place.place c.loop-place-test.false c.loop-place.invariant.0 c.loop-place.invariant.1
