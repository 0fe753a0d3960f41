use Rattle.std.proofs.Common.{◌≡◌, ℕ, ◌+◌, ◌*◌, ◌%◌, get_or, length, ◌∙◌, arith}
use Rattle.hex.proofs.HexLemmas.{decode_of-even}
use Rattle.hex.proofs.Pairs.{decode_done, decode_start, decode_step}
use Rattle.dnsv_anchors.proofs.HexFieldLemmas.{decodes_digits, decodes_even, pair_is}
use Rattle.dnsv_anchors.proofs.hex_field.decode.Goals as goal

pub loop-place-init : goal.loop-place-init
loop-place-init c = decode_start c.args.digits.now c.args.octets.now

pub loop-place-preserved : goal.loop-place-preserved
loop-place-preserved c =
    let digit : ℕ → ℕ = λ place. get_or c.args.digits.now place 0 in
    let pair = pair_is (digit (2 * c.loop-place.place)) (digit (2 * c.loop-place.place + 1)) (2 * c.loop-place.place) c.value_of.result c.value_of-in-loop-place.result c.value_of.ensures.value c.value_of-in-loop-place.ensures.value in
    decode_step c.args.digits.now c.loop-place.octets c.loop-place.place (c.value_of.result * 16 + c.value_of-in-loop-place.result) (omega arith) (omega arith) pair c.loop-place.invariant

pub value_of-requires : goal.value_of-requires
value_of-requires c = decodes_digits c.args.digits.now c.requires.decodes (2 * c.loop-place.place) 0 (omega arith)

pub value_of-requires-in-loop-place : goal.value_of-requires-in-loop-place
value_of-requires-in-loop-place c = decodes_digits c.args.digits.now c.requires.decodes (2 * c.loop-place.place + 1) 0 (omega arith)

pub returns : goal.returns
returns c =
    let even : length c.args.digits.now % 2 ≡ 0 = decodes_even c.args.digits.now c.requires.decodes in
    decode_of-even c.args.digits.now even ∙ decode_done c.args.digits.now c.loop-place.octets c.loop-place.place (omega arith) (omega (arith, even)) c.loop-place.invariant
