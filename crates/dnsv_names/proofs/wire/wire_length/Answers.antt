use Rattle.std.proofs.Common.{◌+◌, drop, take, ap, ◌∙◌, Some, ⊎_elim, arith}
use Rattle.std.proofs.lemmas.List.{take_at}
use Rattle.dnsv_names.specs.Name.{wire}
use Rattle.dnsv_names.specs.Name.WireLaws.{wire_not_empty}
use Rattle.dnsv_names.proofs.NameLemmas.{SpellsName-wire}
use Rattle.dnsv_names.proofs.ReadLemmas.{Reads-start, Reads-next, Spells-root, Spells-only_root, Spells-next, spelled_within}
use Rattle.dnsv_names.proofs.wire.wire_length.Goals as goal

pub loop-place-init : goal.loop-place-init
loop-place-init c = (Reads-start _, omega arith)

pub loop-place-preserved : goal.loop-place-preserved
loop-place-preserved c =
    (Reads-next c.args.octets.now (λ i. omega (arith, c.type_inv.octets i)) c.loop-place.place c.if-length-eq0.false c.if-length-gt-LABEL_LIMIT.false c.loop-place.invariant.0, omega arith)

pub returns-then-length-eq0-clause-found : goal.returns-then-length-eq0-clause-found
returns-then-length-eq0-clause-found c =
    let whole = c.loop-place.invariant.0.back (Spells-root c.args.octets.now c.loop-place.place c.loop-place-test.true c.if-length-eq0.true) in
    SpellsName-wire whole.0 _
    (record { each = whole.1.front.each; at_most_255 = omega (arith, whole.1.size, c.loop-place.invariant.1) })
    (ap (take (c.loop-place.place + 1)) whole.1.front.form ∙ take_at (wire whole.0) (drop (c.loop-place.place + 1) c.args.octets.now) (c.loop-place.place + 1) (omega (arith, whole.1.size)))

pub returns-then-length-eq0-clause-every : goal.returns-then-length-eq0-clause-every
returns-then-length-eq0-clause-every c = λ labels rest name form.
    let whole = c.loop-place.invariant.0.on (record { each = name.each; form = form }) in
    let last = Spells-only_root c.args.octets.now c.loop-place.place whole.0 rest whole.1.behind c.if-length-eq0.true in
    ap Some (omega (arith, whole.1.size, last))

pub returns-then-length-gt-LABEL_LIMIT-clause-every : goal.returns-then-length-gt-LABEL_LIMIT-clause-every
returns-then-length-gt-LABEL_LIMIT-clause-every c = λ labels rest name form.
    let whole = c.loop-place.invariant.0.on (record { each = name.each; form = form }) in
    let step = Spells-next c.args.octets.now c.loop-place.place whole.0 rest whole.1.behind c.if-length-eq0.false in
    absurd (⊎_elim (λ h. omega arith) (λ h. omega (arith, wire_not_empty step.0)) c.then-length-gt-LABEL_LIMIT.either)

pub returns-clause-every : goal.returns-clause-every
returns-clause-every c = λ labels rest name form.
    let whole = c.loop-place.invariant.0.on (record { each = name.each; form = form }) in
    absurd (omega (arith, spelled_within whole.1.behind, c.loop-place-test.false))
