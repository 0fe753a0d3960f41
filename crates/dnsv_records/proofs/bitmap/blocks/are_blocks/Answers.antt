use Rattle.std.proofs.Common.{◌+◌, drop, ap, ◌∙◌, subst, arith, length-drop}
use Rattle.std.proofs.lemmas.List.{take_rest}
use Rattle.dnsv_records.specs.Bitmap.Blocks.{BlockAtFront}
use Rattle.dnsv_records.proofs.BlockLemmas.{Walks-start, Walks-next, BlockAtFront-first, BlockAt-front}
use Rattle.dnsv_records.proofs.bitmap.blocks.are_blocks.Goals as goal

pub loop-place-init : goal.loop-place-init
loop-place-init c = Walks-start c.args.octets.now

pub returns-in_default : goal.returns-in_default
returns-in_default c = λ are.
    let octets = c.args.octets.now in
    let place = c.loop-place.place in
    let first = BlockAtFront-first c.loop-place.least (drop place octets) (c.loop-place.invariant.on are) (omega (arith, length-drop place octets)) in
    let some = c.in_default.ensures.every first.1.block first.1.rest first.1.good first.1.rises (take_rest octets place ∙ first.1.written) in
    cc

pub loop-place-preserved : goal.loop-place-preserved
loop-place-preserved c =
    let octets = c.args.octets.now in
    let place = c.loop-place.place in
    let front : BlockAtFront (drop place octets) c.loop-place.least c.in-Some.size =
    subst (λ xs. BlockAtFront xs c.loop-place.least c.in-Some.size) (take_rest octets place) c.in-Some.ensures.found in
    let at = BlockAt-front octets front.rest place front.block front.written in
    Walks-next octets place c.loop-place.least c.in-Some.size (c.from-least.result + 1) front (ap (λ n. n + 1) (c.from-least.ensures ∙ at.number)) c.loop-place.invariant
