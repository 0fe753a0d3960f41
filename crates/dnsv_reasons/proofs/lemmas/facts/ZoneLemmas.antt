-- What is so of a zone is one.
use Rattle.std.proofs.Common.{◌≡◌, ◌∙◌, ℕ, List, sym, subst}
use Rattle.std.specs.List.{AllZip}
use Rattle.dnsv_names.specs.Name.{Labels, rightmost}
use Rattle.dnsv_chain.specs.Trusted.{IsTrustedKey}
use Rattle.dnsv_chain.specs.Basis.{Basis}
use Rattle.dnsv_mending.specs.declared.facts.zone.ZoneFacts.{ZoneFacts}
use Rattle.dnsv_mending.specs.declared.facts.zone.ZoneKey.{ZoneKey}
use Rattle.dnsv_faults.specs.KnownZones.{IsKnownZone}
use Rattle.dnsv_zone_faults.specs.Zones.{AreFactsOfZone, AreZoneFacts, AreZoneKeyFacts, IsAnchored, IsHolder, IsZoneKeyFacts}
use Rattle.dnsv_zone_keys.proofs.lemmas.ZoneKeyLemmas.{one_zone_keys}
use Rattle.dnsv_remedy_laws.specs.AlikeZones.{AreAlikeKeys, AreAlikeZones}
use Rattle.dnsv_reasons.proofs.lemmas.facts.DnskeyLemmas.{one_all_dnskey_facts}
use Rattle.dnsv_reasons.proofs.lemmas.facts.ListLemmas.{alike_zip, one_rising_of, one_test, zip_by_place}
use Rattle.dnsv_reasons.proofs.lemmas.facts.VoucherLemmas.{one_all_ds_facts, one_anchor_facts}

module _ (basis : Basis) (zone : Labels) where
  -- a key of the zone with those that hold it
  pub one_zone_key : (rdata : List ℕ) (a b : ZoneKey) → IsZoneKeyFacts basis zone rdata a → IsZoneKeyFacts basis zone rdata b
      → AreAlikeKeys a b
  one_zone_key rdata a b x y = record {
    is_trusted =
        one_test (IsTrustedKey basis.meaning basis.moment basis.rrsets basis.anchors zone rdata) a.is_trusted b.is_trusted
        x.trusted y.trusted;
    holders =
        one_rising_of (IsHolder basis.rrsets zone rdata) a.holders.items b.holders.items x.rising y.rising x.holders y.holders;
  }

  pub one_zone_key_facts : (a b : List ZoneKey) → AreZoneKeyFacts basis zone a → AreZoneKeyFacts basis zone b → AllZip AreAlikeKeys a b
  one_zone_key_facts a b x y =
      let keys : x.keys ≡ y.keys = one_zone_keys basis.rrsets zone x.keys y.keys x.are y.are in
      let Of : List (List ℕ) → Type 0 = λ each. AllZip (IsZoneKeyFacts basis zone) each a in
      alike_zip (IsZoneKeyFacts basis zone) AreAlikeKeys one_zone_key y.keys a b (subst Of keys x.each) y.each

module _ (basis : Basis) (name : Labels) (t : ℕ) where
  pub one_facts_of_zone : (zone : Labels) (a b : ZoneFacts) → AreFactsOfZone basis name t zone a → AreFactsOfZone basis name t zone b
      → AreAlikeZones a b
  one_facts_of_zone zone a b x y = record {
    is_known = one_test (IsKnownZone basis name t zone) a.is_known b.is_known x.known y.known;
    is_anchored = one_test (IsAnchored basis.anchors zone) a.is_anchored b.is_anchored x.anchored y.anchored;
    keys = one_zone_key_facts basis zone a.keys.items b.keys.items x.keys y.keys;
    dnskeys = one_all_dnskey_facts basis zone a.dnskeys.items b.dnskeys.items x.dnskeys y.dnskeys;
    anchors = one_anchor_facts basis zone a.anchors.items b.anchors.items x.anchors y.anchors;
    ds = one_all_ds_facts basis zone a.ds.items b.ds.items x.ds y.ds;
  }

  pub one_zone_facts : (zones others : List ZoneFacts) → AreZoneFacts basis name t zones → AreZoneFacts basis name t others
      → AllZip AreAlikeZones zones others
  one_zone_facts zones others x y =
      zip_by_place AreAlikeZones zones others (x.count ∙ sym y.count)
      (λ n a b here there. one_facts_of_zone (rightmost name n) a b (x.each n a here) (y.each n b there))
