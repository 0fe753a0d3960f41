use Rattle.std.proofs.Common.{List, ℕ, ap, subst, ◌∙◌}
use Rattle.std.proofs.lemmas.List.{take_all}
use Rattle.std.specs.List.{AllZip}
use Rattle.dnsv_canonical.specs.Index.{numbers_at}
use Rattle.dnsv_canonical.specs.Rrsets.{ReceivedRrset}
use Rattle.dnsv_zone_faults.specs.Dnskeys.{AreDnskeyFacts}
use Rattle.dnsv_zone_faults.specs.Dnskeys.DnskeySearch.{basis_in}
use Rattle.dnsv_zone_faults.proofs.lemmas.zones.DnskeyLemmas.{dnskey_next, set_number_at}
use Rattle.dnsv_zone_faults.proofs.zone.dnskeys.dnskey_facts.Goals as goal

pub add_dnskey-requires-clause-number : goal.add_dnskey-requires-clause-number
add_dnskey-requires-clause-number c =
    let zone = c.args.keyed.now.zone.now in
    set_number_at c.args.keyed.now.facts.now.rrsets zone c.at-number-items.result.now c.loop-number.number-index 0
    (c.at-number-items.ensures ∙ ap (λ (rrsets : List ReceivedRrset). numbers_at rrsets zone 48) c.capture.ensures) c.loop-number-test.true

pub loop-number-preserved : goal.loop-number-preserved
loop-number-preserved c =
    dnskey_next (basis_in c.args.keyed.now) c.args.keyed.now.zone.now c.at-number-items.result.now c.loop-number.number-index 0
    c.loop-number.dnskeys.items c.add_dnskey.new.dnskeys.items c.loop-number-test.true c.loop-number.invariant c.in_ok-add_dnskey.ensures

pub returns : goal.returns
returns c =
    let zone = c.args.keyed.now.zone.now in
    let Each : List ℕ → Type 0 = λ numbers. AllZip (AreDnskeyFacts (basis_in c.args.keyed.now) zone) numbers c.loop-number.dnskeys.items in
    subst Each (c.at-number-items.ensures ∙ ap (λ (rrsets : List ReceivedRrset). numbers_at rrsets zone 48) c.capture.ensures)
    (subst Each (take_all c.loop-number.number-index c.at-number-items.result.now c.loop-number-test.false) c.loop-number.invariant)
