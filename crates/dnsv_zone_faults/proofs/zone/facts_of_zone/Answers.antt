use Rattle.std.proofs.Common.{List, subst, arith}
use Rattle.dnsv_names.specs.Name.{Labels}
use Rattle.dnsv_chain.specs.Basis.{CaseContents, basis_by}
use Rattle.dnsv_zone_faults.specs.Dnskeys.{AreAllDnskeyFacts}
use Rattle.dnsv_mending.specs.declared.facts.keys.DnskeyFacts.{DnskeyFacts}
use Rattle.dnsv_zone_keys.specs.Keys.{AreZoneKeys}
use Rattle.dnsv_zone_faults.specs.Zones.HolderSearch.{AreHoldersOfEach}
use Rattle.dnsv_zone_faults.proofs.lemmas.zones.ZoneLemmas.{zone_keys_are}
use Rattle.dnsv_zone_faults.proofs.zone.facts_of_zone.Goals as goal

pub returns : goal.returns
returns c = λ name t known.
    let case = c.args.facts.now in
    let zone = c.args.zone.now in
    let keyed = c.in_ok-keyed.keyed in
    let its = c.in_ok-keyed.ensures in
    let found = c.in_ok-dnskeys.dnskeys in
    let all = its.are.all in
    let Dnskeys : CaseContents → Labels → Type 0 = λ each owner. AreAllDnskeyFacts (basis_by each) owner found.items in
    let dnskeys = subst (λ (owner : Labels). Dnskeys case owner) its.zone (subst (λ (each : CaseContents). Dnskeys each keyed.zone.now) its.facts c.in_ok-dnskeys.ensures) in
    let Keys : CaseContents → Labels → Type 0 = λ each owner. AreZoneKeys each.rrsets owner all in
    let keys = subst (λ (owner : Labels). Keys case owner) its.zone (subst (λ (each : CaseContents). Keys each keyed.zone.now) its.facts its.are.are) in
    let count = its.are.count in
    let length_is = c.len.ensures in
    let size = keyed.keys.ok.0 in
    let Holders : List DnskeyFacts → Type 0 = λ all_found. AreHoldersOfEach all_found c.len.result c.in_ok-zone_key_facts.field-0.items in
    record {
      known = known;
      anchored = c.is_anchored.ensures;
      keys = zone_keys_are (basis_by case) zone all found.items c.len.result c.in_ok-zone_key_facts.field-0.items keys dnskeys (omega (arith, count, length_is, size))
          (subst Holders c.deref-3.ensures.value c.in_ok-zone_key_facts.ensures);
      dnskeys = dnskeys;
      anchors = c.in_ok-anchors.ensures;
      ds = c.in_ok-ds.ensures;
    }
