use Rattle.std.proofs.Common.{List, ℕ, ap, subst, ◌∙◌}
use Rattle.std.proofs.lemmas.List.{take_all}
use Rattle.std.specs.List.{AllZip}
use Rattle.dnsv_canonical.specs.Index.{numbers_at}
use Rattle.dnsv_canonical.specs.Rrsets.{ReceivedRrset}
use Rattle.dnsv_chain.specs.Basis.{basis_by}
use Rattle.dnsv_zone_faults.specs.Groups.{AreDsFacts}
use Rattle.dnsv_zone_faults.proofs.lemmas.GroupLemmas.{ds_next, ds_number}
use Rattle.dnsv_zone_faults.proofs.zone.groups.ds.ds_facts.Goals as goal

pub add_ds-requires : goal.add_ds-requires
add_ds-requires c =
    ds_number c.args.facts.now.rrsets c.args.zone.now c.at-number-items.result.now c.loop-number.number-index 0
    (c.at-number-items.ensures ∙ ap (λ (rrsets : List ReceivedRrset). numbers_at rrsets c.args.zone.now 43) c.capture.ensures) c.loop-number-test.true

pub loop-number-preserved : goal.loop-number-preserved
loop-number-preserved c =
    ds_next (basis_by c.args.facts.now) c.args.zone.now c.args.keys.now c.at-number-items.result.now c.loop-number.number-index 0
    c.loop-number.ds.items c.add_ds.new.ds.items c.loop-number-test.true c.requires c.loop-number.invariant c.in_ok-add_ds.ensures

pub returns : goal.returns
returns c =
    let Each : List ℕ → Type 0 = λ numbers. AllZip (AreDsFacts (basis_by c.args.facts.now) c.args.zone.now) numbers c.loop-number.ds.items in
    subst Each (c.at-number-items.ensures ∙ ap (λ (rrsets : List ReceivedRrset). numbers_at rrsets c.args.zone.now 43) c.capture.ensures)
    (subst Each (take_all c.loop-number.number-index c.at-number-items.result.now c.loop-number-test.false) c.loop-number.invariant)
