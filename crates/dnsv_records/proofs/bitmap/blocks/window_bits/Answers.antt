use Rattle.std.proofs.Common.{◌≡◌, ◌+◌, ◌-◌, length, drop, take, refl, ap, sym, ◌∙◌, arith}
use Rattle.dnsv_records.specs.Bitmap.Blocks.{blocks_of, bits_of}
use Rattle.dnsv_records.proofs.BlockLemmas.{block_here, drop-front, AreBlocks-on, bits_of-same, bits_of-other}
use Rattle.dnsv_records.proofs.bitmap.blocks.window_bits.Goals as goal

pub loop-place-init : goal.loop-place-init
loop-place-init c = (0, c.requires, refl)

pub bounds-octets-place : goal.bounds-octets-place
bounds-octets-place c =
    let here = block_here c.args.octets.now c.loop-place.place c.loop-place.invariant.0 c.loop-place.invariant.1 c.loop-place-test.true in
    omega (arith, here.at.within)

pub slice_bounds-result-end : goal.slice_bounds-result-end
slice_bounds-result-end c =
    let here = block_here c.args.octets.now c.loop-place.place c.loop-place.invariant.0 c.loop-place.invariant.1 c.loop-place-test.true in
    omega (arith, here.at.within, here.at.count, c.from.ensures)

pub loop-place-preserved : goal.loop-place-preserved
loop-place-preserved c =
    let octets = c.args.octets.now in
    let place = c.loop-place.place in
    let here = block_here octets place c.loop-place.invariant.0 c.loop-place.invariant.1 c.loop-place-test.true in
    let size : place + 2 + c.from.result ≡ place + here.size = omega (arith, here.at.count, c.from.ensures, here.front.whole) in
    let rest : drop (place + 2 + c.from.result) octets ≡ here.front.rest =
    ap (λ n. drop n octets) size ∙ drop-front octets here.front.rest place here.size here.front.block here.front.written here.front.whole in (
      here.front.block.window + 1,
      rw rest (AreBlocks-on c.loop-place.invariant.0 (drop place octets) here.front.rest here.front.block here.front.written c.loop-place.invariant.1),
      ap (λ xs. bits_of (blocks_of xs) c.args.window) rest
          ∙ sym (bits_of-other (drop place octets) here.front.rest here.front.block c.args.window here.front.written (λ same. c.if-from-window.false (c.from-in-loop-place.ensures ∙ here.at.number ∙ same)))
          ∙ c.loop-place.invariant.2,
    )

pub returns-then-from-window : goal.returns-then-from-window
returns-then-from-window c =
    let octets = c.args.octets.now in
    let place = c.loop-place.place in
    let here = block_here octets place c.loop-place.invariant.0 c.loop-place.invariant.1 c.loop-place-test.true in
    let count : place + 2 + c.from.result - (place + 2) ≡ length here.front.block.bits = omega (arith, here.at.count, c.from.ensures) in
    ap (λ n. take n (drop (place + 2) octets)) count ∙ here.at.bits
    ∙ sym (bits_of-same (drop place octets) here.front.rest here.front.block c.args.window here.front.written (sym here.at.number ∙ sym c.from-in-loop-place.ensures ∙ c.if-from-window.true))
    ∙ c.loop-place.invariant.2
