use Rattle.std.proofs.Common.{◌↔◌, ℕ, IsTrue, refl, sym, ap, ◌∙◌, subst}
use Rattle.dnsv_records.specs.Dnskey.KeyTag.{key_tag_of}
use Rattle.dnsv_records.specs.declared.dnskey.Dnskey.{Dnskey}
use Rattle.dnsv_verifier.specs.Admissible.{DnskeyRecord}
use Rattle.dnsv_zone_faults.specs.Dnskeys.{IsNamedIn}
use Rattle.dnsv_zone_keys.specs.Keys.{IsKeyPlaced, IsZoneKey}
use Rattle.dnsv_zone_faults.proofs.lemmas.zones.PlaceLemmas.{key_in}
use Rattle.dnsv_zone_faults.proofs.zone.dnskeys.held.held_key.Goals as goal

pub returns : goal.returns
returns c =
    let set = c.args.set.now in
    let rrsets = set.keyed.now.facts.now.rrsets in
    let zone = set.keyed.now.zone.now in
    let placed = c.args.placed.now in
    let its = key_in rrsets zone set.rrset.now set.keys.items c.requires.set.keys placed c.requires.among in
    let tag = c.key_tag.ensures ∙ ap (λ (k : DnskeyRecord). key_tag_of k.rdata) c.key-key.ensures in
    let dnskey = c.dnskey.ensures ∙ ap (λ (k : DnskeyRecord). k.dnskey) c.key-key.ensures in
    let algorithm = ap (λ (d : Dnskey). d.algorithm) dnskey in record {
      key = placed.key;
      rdata_is = refl;
      stands = its.stands;
      placed = subst (λ (n : ℕ). IsKeyPlaced rrsets zone n placed.key) (sym c.place.ensures) its.at;
      number = refl;
      name = λ i. record { tag = record { 0 = tag i }; algorithm = algorithm i };
      zone_key = subst (λ (k : DnskeyRecord). IsTrue c.is_zone_key.result ↔ IsZoneKey k) c.key-key.ensures c.is_zone_key.ensures;
      named = subst (λ (k : DnskeyRecord). IsTrue c.is_named_in.result ↔ IsNamedIn set.rrset.now k) c.key-key.ensures c.is_named_in.ensures;
      signatures = c.in_ok-self_signatures.ensures;
    }
