use Rattle.std.proofs.Common.{◌≡◌, [], ◌∷◌, List, map, rules, sym, ap, ◌∙◌, subst}
use Rattle.std.proofs.lemmas.List.{map-append}
use Rattle.std.proofs.lemmas.Map.Iter.{rest_more}
use Rattle.std.specs.Map.Iter.{deref_pair}
use Rattle.dnsv_names.specs.Name.{Labels}
use Rattle.dnsv_records.specs.declared.dnskey.Dnskey.{Dnskey}
use Rattle.dnsv_verifier.specs.Admissible.{DnskeyRecord}
use Rattle.dnsv_chain.specs.Kept.{AreKeysOf, AreZonesBefore}
use Rattle.dnsv_chain.proofs.KeptLemmas.{zone_more}
use Rattle.dnsv_chain.proofs.trust.keys_of_zones.Goals as goal

pub loop-zone-preserved : goal.loop-zone-preserved
loop-zone-preserved c =
    let entries = c.args.keys.now.entries in
    let rest = c.next.new.self in
    let first = rest_more deref_pair c.loop-zone.zone-iterator rest c.next.result (c.in-Some.zone, c.in-Some.records) c.in-Some.is c.next.ensures.steps in
    let name : c.to_name.result ≡ c.in-Some.zone.now.0 = search rules in
    let keys : AreKeysOf c.in-Some.records.now.items c.in_ok-distinct_keys.field-0.items =
    subst (λ (records : List DnskeyRecord). AreKeysOf records c.in_ok-distinct_keys.field-0.items) c.as_slice.ensures.value c.in_ok-distinct_keys.ensures in
    subst (λ (zones : List (Labels × List Dnskey)). AreZonesBefore entries rest zones)
    (sym (ap (map (λ each. (each.zone, each.keys.items))) c.in_ok-push.ensures.items ∙ map-append (λ each. (each.zone, each.keys.items)) c.loop-zone.zones.items (record { zone = c.to_name.result; keys = c.in_ok-distinct_keys.field-0 } ∷ [])))
    (zone_more entries rest (c.in-Some.zone.now, c.in-Some.records.now) (map (λ each. (each.zone, each.keys.items)) c.loop-zone.zones.items) (c.to_name.result, c.in_ok-distinct_keys.field-0.items) (name, keys)
    (rw (← first) c.loop-zone.invariant))
