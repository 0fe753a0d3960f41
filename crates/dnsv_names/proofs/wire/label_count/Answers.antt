use Rattle.std.proofs.Common.{◌<◌, length, arith}
use Rattle.dnsv_names.specs.Name.Spelling.{labels_of}
use Rattle.dnsv_names.specs.Name.WireLaws.{length-wire}
use Rattle.dnsv_names.proofs.NameLemmas.{Stands-start, place_within, label_left, Stands-next, root_reached}
use Rattle.dnsv_names.proofs.wire.label_count.Goals as goal

pub loop-place-init : goal.loop-place-init
loop-place-init c = (Stands-start _ c.requires, omega arith)

pub bounds-octets-place : goal.bounds-octets-place
bounds-octets-place c = place_within c.loop-place.invariant.0

pub overflow_add-count : goal.overflow_add-count
overflow_add-count c = omega (arith, c.loop-place.invariant.1, length-wire _ c.requires.name.each, c.requires.name.at_most_255)

pub loop-place-preserved : goal.loop-place-preserved
loop-place-preserved c =
    let more : c.loop-place.count < length (labels_of c.args.octets.now) = label_left c.loop-place.invariant.0 c.loop-place.invariant.1 c.loop-place-test.true in
    (Stands-next c.loop-place.invariant.0 more, omega arith)

pub returns : goal.returns
returns c = root_reached c.loop-place.invariant.0 c.requires.name.each c.loop-place.invariant.1 c.loop-place-test.false
