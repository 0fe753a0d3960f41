-- Of zones that are alike the same is kept.
use Rattle.std.proofs.Common.{◌≡◌, ◌++◌, ◌+◌, ◌&&◌, ◌||◌, ℕ, Bool, if◌then◌else◌, List, [], ◌∷◌, Option, Some, None, length, flat_map, refl, ◌∙◌}
use Rattle.std.specs.List.{AllZip, list_any}
use Rattle.dnsv_lines.specs.declared.line.fault.zone.WhyZone.TheVariants as why
use Rattle.dnsv_mending.specs.Keys.{Signing, fits}
use Rattle.dnsv_mending.specs.Level.{Leveled, zone_above}
use Rattle.dnsv_mending.specs.Mend.{Mended, after, cheapest, fault, nothing}
use Rattle.dnsv_mending.specs.Zone.{Standing, anchor_ways, anchored_ways, anchored_zone_ways, chain_of, chains_of, dnskey_mend, dnskey_ways, ds_ways, has_none, held, holder_ways, is_fitted, is_vouched, is_zone_trusted, kept_ways, lead_ways, level_of, level_of_sets, level_over, levels_from, levels_of, mend_at, not_vouched, standing_by, standing_of, unanchored, unvouched_ways, zone_ways}
use Rattle.dnsv_mending.specs.declared.facts.keys.DnskeyFacts.{DnskeyFacts}
use Rattle.dnsv_mending.specs.declared.facts.keys.VoucherFacts.{VoucherFacts}
use Rattle.dnsv_mending.specs.declared.facts.zone.DsFacts.{DsFacts}
use Rattle.dnsv_mending.specs.declared.facts.zone.ZoneFacts.{ZoneFacts}
use Rattle.dnsv_mending.specs.declared.facts.zone.ZoneKey.{ZoneKey}
use Rattle.dnsv_mending.specs.declared.told.Told.TheVariants as told
use Rattle.dnsv_remedy_laws.specs.AlikeZones.{AreAlikeDnskeys, AreAlikeDs, AreAlikeKeys, AreAlikeVouchers, AreAlikeZones}
use Rattle.dnsv_remedy_laws.proofs.Keys.{fits-alike, group_ways-alike, signings-alike}
use Rattle.dnsv_remedy_laws.proofs.Lists.{flat_map-alike, is_none-alike, list_any-alike, map-alike}
use Rattle.dnsv_remedy_laws.proofs.Rrsets.{rrset_ways-alike}

-- ---- what leads into a zone

chain_of-alike : (levels : List Leveled) (a b : DsFacts) → AreAlikeDs a b → chain_of levels a ≡ chain_of levels b
unfolding chain_of
chain_of-alike levels a b e = λ i. cheapest (rrset_ways-alike levels (zone_above levels) a.rrset b.rrset e.rrset i)

chains_of-alike : (levels : List Leveled) (a b : ZoneFacts) → AreAlikeZones a b → chains_of levels a ≡ chains_of levels b
chains_of-alike levels a b e = map-alike AreAlikeDs (chain_of levels) (chain_of levels) (chain_of-alike levels) a.ds.items b.ds.items e.ds

has_none-alike : (a b : ZoneFacts) → AreAlikeZones a b → has_none a ≡ has_none b
has_none-alike a b e = λ i. is_none-alike AreAlikeVouchers a.anchors.items b.anchors.items e.anchors i
    && is_none-alike AreAlikeDs a.ds.items b.ds.items e.ds i

anchor_ways-alike : (a b : VoucherFacts) → AreAlikeVouchers a b → anchor_ways a ≡ anchor_ways b
unfolding anchor_ways
anchor_ways-alike a b e = refl

lead_ways-alike : (n : ℕ) (levels : List Leveled) (chains : List (Option Mended)) (a b : ZoneFacts) → AreAlikeZones a b
    → lead_ways n levels a chains ≡ lead_ways n levels b chains
lead_ways-alike n levels chains a b e = λ i.
    if has_none-alike a b e i then after (zone_above levels) (fault (told.Zone why.DsMissing n))
    else flat_map-alike AreAlikeVouchers anchor_ways anchor_ways anchor_ways-alike a.anchors.items b.anchors.items e.anchors i
    ++ flat_map kept_ways chains

-- ---- a DNSKEY RRset

is_fitted-alike : (keys : List Signing) (xs ys : List VoucherFacts) → AllZip AreAlikeVouchers xs ys → is_fitted xs keys ≡ is_fitted ys keys
is_fitted-alike keys xs ys e =
    let does : VoucherFacts → Bool = λ (v : VoucherFacts). list_any (fits v) keys in
    list_any-alike AreAlikeVouchers does does (λ x y each i. list_any (λ (k : Signing). fits-alike x y each k i) keys) xs ys e

is_vouched-alike : (keys : List Signing) (a b : ZoneFacts) → AreAlikeZones a b → is_vouched a keys ≡ is_vouched b keys
is_vouched-alike keys a b e =
    let does : DsFacts → Bool = λ (ds : DsFacts). is_fitted ds.records.items keys in
    λ i. is_fitted-alike keys a.anchors.items b.anchors.items e.anchors i || list_any-alike AreAlikeDs does does
    (λ x y each. is_fitted-alike keys x.records.items y.records.items each.records) a.ds.items b.ds.items e.ds i

ds_ways-alike : (keys : List Signing) (chains : List (Option Mended)) (place : ℕ) (xs ys : List DsFacts) → AllZip AreAlikeDs xs ys
    → ds_ways keys chains place xs ≡ ds_ways keys chains place ys
ds_ways-alike keys chains place [] [] e = refl
ds_ways-alike keys chains place [] (y ∷ ys) e = absurd e
ds_ways-alike keys chains place (x ∷ xs) [] e = absurd e
ds_ways-alike keys chains place (x ∷ xs) (y ∷ ys) e = λ i.
    group_ways-alike (mend_at chains place) keys x.records.items y.records.items e.0.records i
    ++ ds_ways-alike keys chains (place + 1) xs ys e.1 i

not_vouched-alike : (a b : ZoneFacts) → AreAlikeZones a b → (r s : DnskeyFacts) → AreAlikeDnskeys r s
    → not_vouched a r ≡ not_vouched b s
not_vouched-alike a b e r s d = λ i. if has_none-alike a b e i then None else Some (told.NotVouched (d.number i))

anchored_ways-alike : (st : Standing) (keys : List Signing) (a b : ZoneFacts) → AreAlikeZones a b → (r s : DnskeyFacts)
    → AreAlikeDnskeys r s → anchored_ways st a r keys ≡ anchored_ways st b s keys
anchored_ways-alike st keys a b e r s d = λ i. if is_vouched-alike keys a b e i
    then group_ways-alike (Some nothing) keys a.anchors.items b.anchors.items e.anchors i
    ++ ds_ways-alike keys st.chains 0 a.ds.items b.ds.items e.ds i
    else flat_map (unvouched_ways st.lead (not_vouched-alike a b e r s d i)) keys

dnskey_ways-alike : (st : Standing) (a b : ZoneFacts) → AreAlikeZones a b → (r s : DnskeyFacts) → AreAlikeDnskeys r s
    → dnskey_ways st a r ≡ dnskey_ways st b s
dnskey_ways-alike st a b e r s d = λ i. if d.is_trusted i then nothing ∷ []
    else (if e.is_anchored i then anchored_ways-alike st (signings-alike r s d i) a b e r s d i else unanchored st ∷ [])

dnskey_mend-alike : (st : Standing) (a b : ZoneFacts) → AreAlikeZones a b → (r s : DnskeyFacts) → AreAlikeDnskeys r s
    → dnskey_mend st a r ≡ dnskey_mend st b s
unfolding dnskey_mend
dnskey_mend-alike st a b e r s d = λ i. cheapest (dnskey_ways-alike st a b e r s d i)

-- ---- a zone

is_zone_trusted-alike : (a b : ZoneFacts) → AreAlikeZones a b → is_zone_trusted a ≡ is_zone_trusted b
is_zone_trusted-alike a b e =
    let is_it : DnskeyFacts → Bool = λ (r : DnskeyFacts). r.is_trusted in
    list_any-alike AreAlikeDnskeys is_it is_it (λ x y each. each.is_trusted) a.dnskeys.items b.dnskeys.items e.dnskeys

anchored_zone_ways-alike : (st : Standing) (sets : List (Option Mended)) (a b : ZoneFacts) → AreAlikeZones a b
    → anchored_zone_ways st a sets ≡ anchored_zone_ways st b sets
anchored_zone_ways-alike st sets a b e = λ i. if is_none-alike AreAlikeDnskeys a.dnskeys.items b.dnskeys.items e.dnskeys i
    then after st.lead (fault (told.Zone why.DnskeyMissing st.labels)) else flat_map kept_ways sets

zone_ways-alike : (st : Standing) (sets : List (Option Mended)) (a b : ZoneFacts) → AreAlikeZones a b
    → zone_ways st a sets ≡ zone_ways st b sets
zone_ways-alike st sets a b e = λ i. if is_zone_trusted-alike a b e i then nothing ∷ []
    else (if e.is_anchored i then anchored_zone_ways-alike st sets a b e i else unanchored st ∷ [])

held-alike : (sets : List (Option Mended)) (a b : ZoneKey) → AreAlikeKeys a b → held sets a ≡ held sets b
unfolding held
held-alike sets a b e = λ i. record { is_trusted = e.is_trusted i; mend = cheapest (flat_map (holder_ways sets) (e.holders i)) }

level_of_sets-alike : (st : Standing) (sets : List (Option Mended)) (a b : ZoneFacts) → AreAlikeZones a b
    → level_of_sets st a sets ≡ level_of_sets st b sets
level_of_sets-alike st sets a b e = λ i. record {
  zone = cheapest (zone_ways-alike st sets a b e i);
  is_trusted = is_zone_trusted-alike a b e i;
  leads = e.is_known i && e.is_anchored i;
  keys = map-alike AreAlikeKeys (held sets) (held sets) (held-alike sets) a.keys.items b.keys.items e.keys i;
}

level_of-alike : (st : Standing) (a b : ZoneFacts) → AreAlikeZones a b → level_of st a ≡ level_of st b
level_of-alike st a b e = λ i. level_of_sets-alike st
    (map-alike AreAlikeDnskeys (dnskey_mend st a) (dnskey_mend st b) (dnskey_mend-alike st a b e)
    a.dnskeys.items b.dnskeys.items e.dnskeys i) a b e i

standing_by-alike : (t : Bool) (levels : List Leveled) (chains : List (Option Mended)) (a b : ZoneFacts) → AreAlikeZones a b
    → standing_by t levels a chains ≡ standing_by t levels b chains
standing_by-alike t levels chains a b e = λ i. record {
  labels = length levels;
  is_anchored = t;
  lead = cheapest (lead_ways-alike (length levels) levels chains a b e i);
  chains = chains;
}

standing_of-alike : (t : Bool) (levels : List Leveled) (a b : ZoneFacts) → AreAlikeZones a b
    → standing_of t levels a ≡ standing_of t levels b
standing_of-alike t levels a b e = λ i. standing_by-alike t levels (chains_of-alike levels a b e i) a b e i

level_over-alike : (t : Bool) (levels : List Leveled) (a b : ZoneFacts) → AreAlikeZones a b
    → level_over t levels a ≡ level_over t levels b
unfolding level_over
level_over-alike t levels a b e = λ i. level_of-alike (standing_of-alike t levels a b e i) a b e i

levels_from-alike : (t : Bool) (levels : List Leveled) (xs ys : List ZoneFacts) → AllZip AreAlikeZones xs ys
    → levels_from t levels xs ≡ levels_from t levels ys
levels_from-alike t levels [] [] e = refl
levels_from-alike t levels [] (y ∷ ys) e = absurd e
levels_from-alike t levels (x ∷ xs) [] e = absurd e
levels_from-alike t levels (x ∷ xs) (y ∷ ys) e =
    (λ i. levels_from t (levels ++ level_over-alike t levels x y e.0 i ∷ []) xs)
    ∙ levels_from-alike t (levels ++ level_over t levels y ∷ []) xs ys e.1

pub levels_of-alike : (t : Bool) (zones others : List ZoneFacts) → AllZip AreAlikeZones zones others
    → levels_of t zones ≡ levels_of t others
levels_of-alike t zones others e = levels_from-alike t [] zones others e
