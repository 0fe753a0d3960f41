use Rattle.std.proofs.Common.{◌≡◌, ◌<◌, length, drop, ap, ◌∙◌, arith}
use Rattle.dnsv_names.specs.Name.{wire}
use Rattle.dnsv_names.specs.Name.Spelling.{labels_of}
use Rattle.dnsv_names.proofs.NameLemmas.{Stands-start, place_within, length_spelled, Stands-next}
use Rattle.dnsv_names.proofs.wire.label_place.Goals as goal

pub loop-left-init : goal.loop-left-init
loop-left-init c = Stands-start _ c.requires.name

pub bounds-octets-place : goal.bounds-octets-place
bounds-octets-place c = place_within c.loop-left.invariant

pub overflow_add-place-in-loop-left : goal.overflow_add-place-in-loop-left
overflow_add-place-in-loop-left c =
    omega (arith, place_within c.loop-left.invariant, length_spelled _ c.requires.name, c.type_inv.octets c.loop-left.place)

pub loop-left-preserved : goal.loop-left-preserved
loop-left-preserved c =
    let more : c.loop-left.left < length (labels_of c.args.octets.now) = omega arith in
    Stands-next c.loop-left.invariant more

pub returns-clause-rest : goal.returns-clause-rest
returns-clause-rest c =
    let all : c.loop-left.left ≡ c.args.i = omega arith in
    c.loop-left.invariant.form ∙ ap (λ n. wire (drop n (labels_of c.args.octets.now))) all

pub returns-clause-within : goal.returns-clause-within
returns-clause-within c = place_within c.loop-left.invariant
