use Rattle.std.proofs.Common.{[], ℕ, List, sym, subst}
use Rattle.std.specs.Option.{option_map}
use Rattle.dnsv_verifier.proofs.NumberedLemmas.{each_all, each_more, each_none}
use Rattle.dnsv_verifier.specs.Admissible.{DnskeyRecord, IsGood}
use Rattle.dnsv_verifier.specs.Asking.{GivesEach}
use Rattle.dnsv_verifier.specs.Table.{TableContents, table_answer}
use Rattle.dnsv_zone_keys.specs.Answers.AnswerSearch.{IsAskedOf}
use Rattle.dnsv_zone_faults.specs.Dnskeys.DnskeySearch.{HasFound, IsFoundPlace, basis_in}
use Rattle.dnsv_zone_faults.proofs.lemmas.zones.OwnLemmas.{good_are}
use Rattle.dnsv_zone_faults.proofs.lemmas.zones.PlaceLemmas.{key_records}
use Rattle.dnsv_zone_faults.proofs.zone.dnskeys.own.good_places.Goals as goal

pub loop-named-init : goal.loop-named-init
loop-named-init c =
    let table = c.table-table.result.now in
    let keys = c.args.keys.now in
    let Good : DnskeyRecord → Type 0 = IsGood (table_answer table) table.moment c.args.rrset.now c.args.rrsig.now in
    subst (λ (places : List ℕ). GivesEach (IsFoundPlace keys Good) (HasFound keys Good) [] places) (sym c.new-places.ensures.items)
    (each_none (IsFoundPlace keys Good) (HasFound keys Good) c.named_by-named-items.result.now)

pub add_good-requires-clause-same : goal.add_good-requires-clause-same
add_good-requires-clause-same c = key_records c.args.keyed.now.facts.now.rrsets c.args.keyed.now.zone.now c.args.rrset.now c.args.keys.now c.requires.keys

pub add_good-requires-clause-asked : goal.add_good-requires-clause-asked
add_good-requires-clause-asked c =
    subst (λ (table : TableContents). IsAskedOf table.moment c.args.rrset.now c.args.rrsig.now (option_map (λ each. each.items) c.args.octets.now))
    (sym c.table-table.ensures) c.requires.asked

pub loop-named-preserved : goal.loop-named-preserved
loop-named-preserved c =
    let table = c.table-table.result.now in
    let keys = c.args.keys.now in
    let Good : DnskeyRecord → Type 0 = IsGood (table_answer table) table.moment c.args.rrset.now c.args.rrsig.now in
    each_more (IsFoundPlace keys Good) (HasFound keys Good) c.named_by-named-items.result.now c.loop-named.named-index c.named-item.result _ _
    c.loop-named-test.true c.named-item.is c.loop-named.invariant c.in_ok-add_good.ensures

pub returns : goal.returns
returns c =
    let keyed = c.args.keyed.now in
    let rrset = c.args.rrset.now in
    let rrsig = c.args.rrsig.now in
    let keys = c.args.keys.now in
    let table = c.table-table.result.now in
    let Good : DnskeyRecord → Type 0 = IsGood (table_answer table) table.moment rrset rrsig in
    let Gives : TableContents → Type 0 =
    λ t. GivesEach (IsFoundPlace keys (IsGood (table_answer t) t.moment rrset rrsig)) (HasFound keys (IsGood (table_answer t) t.moment rrset rrsig))
    c.named_by-named-items.result.now c.loop-named.places.items in
    let named = c.named_by-named-items.ensures in
    good_are (basis_in keyed) keyed.zone.now rrset keys c.requires.keys rrsig named.all c.named_by-named-items.result.now named.indexed
    named.among named.every c.loop-named.places.items c.of.result
    (subst Gives c.table-table.ensures
    (each_all (IsFoundPlace keys Good) (HasFound keys Good) c.named_by-named-items.result.now c.loop-named.named-index _ c.loop-named-test.false c.loop-named.invariant))
    c.of.ensures.members c.of.ensures.rising
