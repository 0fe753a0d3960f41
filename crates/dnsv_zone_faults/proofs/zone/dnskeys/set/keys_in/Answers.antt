use Rattle.std.proofs.Common.{◌≡◌, ℕ, List, map, sym, ap, ◌∙◌, subst}
use Rattle.std.proofs.lemmas.List.{take_all}
use Rattle.std.proofs.lemmas.List.Elements.{Contains-get_or}
use Rattle.std.specs.List.{AllByRecursion}
use Rattle.std.specs.Prelude.{Contains}
use Rattle.dnsv_canonical.specs.Canonical.{IsCanonical}
use Rattle.dnsv_records.specs.declared.dnskey.Dnskey.{Dnskey}
use Rattle.dnsv_rrsets.specs.declared.canonical_order.ReadRecord.{ReadRecord}
use Rattle.dnsv_verifier.proofs.NumberLemmas.{contains_map}
use Rattle.dnsv_zone_faults.specs.Dnskeys.DnskeySearch.{IsKeyIn, rdata_of}
use Rattle.dnsv_zone_keys.specs.Keys.Index.{Placed}
use Rattle.dnsv_zone_faults.proofs.lemmas.zones.FindLemmas.{stand_by_rdata}
use Rattle.dnsv_zone_keys.proofs.lemmas.OnceLemmas.{each_push}
use Rattle.dnsv_zone_faults.proofs.lemmas.zones.KeyedLemmas.{more_rdata, octets}
use Rattle.dnsv_zone_faults.proofs.zone.dnskeys.set.keys_in.Goals as goal

pub key_in-requires-clause-among : goal.key_in-requires-clause-among
key_in-requires-clause-among c =
    let records = c.deref-each-items.result.now in
    let each = c.each-item.result in
    let there = subst (λ (one : ReadRecord Dnskey). Contains records one) (sym c.each-item.is) (Contains-get_or records c.loop-each.each-index each c.loop-each-test.true) in
    let listed = subst (λ (all : List (ReadRecord Dnskey)). Contains all each) c.deref-each-items.ensures.value there in
    (c.in_ok-records.ensures.order.members each.rdata.now).0 (contains_map octets c.in_ok-records.records.items each listed)

pub loop-each-preserved : goal.loop-each-preserved
loop-each-preserved c =
    let In : Placed → Type 0 = IsKeyIn c.args.keyed.now.facts.now.rrsets c.args.keyed.now.zone.now c.args.rrset.now in (
      ap (map rdata_of) c.in_ok-push.ensures.items
          ∙ more_rdata c.deref-each-items.result.now c.loop-each.each-index c.each-item.result c.loop-each.keys.items c.key_in.result c.loop-each-test.true
          c.each-item.is c.key_in.ensures.rdata c.loop-each.invariant.0,
      subst (λ (keys : List Placed). AllByRecursion In keys) (sym c.in_ok-push.ensures.items)
          (each_push In c.loop-each.keys.items c.key_in.result c.loop-each.invariant.1 c.key_in.ensures.is),
    )

pub returns : goal.returns
returns c =
    let records = c.deref-each-items.result.now in
    let rdata : map rdata_of c.loop-each.keys.items ≡ map octets c.in_ok-records.records.items =
    c.loop-each.invariant.0 ∙ ap (map octets) (take_all c.loop-each.each-index records c.loop-each-test.false ∙ c.deref-each-items.ensures.value) in
    let in_order : IsCanonical c.args.rrset.now.rdata (map rdata_of c.loop-each.keys.items) =
    subst (λ (list : List (List ℕ)). IsCanonical c.args.rrset.now.rdata list) (sym rdata) c.in_ok-records.ensures.order in
    record { in_order = in_order; sorted = stand_by_rdata c.loop-each.keys.items in_order.rising; each = c.loop-each.invariant.1 }
