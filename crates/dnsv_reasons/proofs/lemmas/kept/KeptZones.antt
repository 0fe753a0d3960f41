-- What is told of what is kept of zones.
use Rattle.std.proofs.Common.{◌≡◌, inl, inr, ℕ, ◌+◌, ◌++◌, Bool, if◌then◌else◌, List, [], ◌∷◌, Some, append_assoc, flat_map, length, map, refl, sym, ap, ◌∙◌, subst, slice_get, arith}
use Rattle.std.proofs.lemmas.List.{length-append}
use Rattle.std.specs.List.{AllByRecursion}
use Rattle.dnsv_canonical.specs.declared.number.RecordNumber.{RecordNumber}
use Rattle.dnsv_lines.specs.declared.line.fault.zone.WhyZone.TheVariants as why
use Rattle.dnsv_mending.specs.Level.{Held, Leveled, zone_above}
use Rattle.dnsv_mending.specs.Mend.{Mended, after, fault, is_none, nothing}
use Rattle.dnsv_mending.specs.Rrset.{rrset_ways}
use Rattle.dnsv_mending.specs.Ways.{IsAmong}
use Rattle.dnsv_mending.specs.Zone.{Standing, anchor_ways, anchored_zone_ways, chain_of, chains_of, dnskey_mend, has_none, held, holder_ways, is_zone_trusted, kept_ways, lead_ways, level_of, level_over, levels_from, levels_of, mend_at, standing_of, unanchored, zone_ways}
use Rattle.dnsv_mending.specs.declared.facts.keys.DnskeyFacts.{DnskeyFacts}
use Rattle.dnsv_mending.specs.declared.facts.zone.DsFacts.{DsFacts}
use Rattle.dnsv_mending.specs.declared.facts.zone.ZoneFacts.{ZoneFacts}
use Rattle.dnsv_mending.specs.declared.facts.zone.ZoneKey.{ZoneKey}
use Rattle.dnsv_mending.specs.declared.told.Told.{Told}
use Rattle.dnsv_mending.specs.declared.told.Told.TheVariants as told
use Rattle.dnsv_mending.proofs.AllWays.{all_append, all_flat, all_if, all_mapped, all_ways_of, among_at, at_seam, kept_some, mapped_at, of_cheapest}
use Rattle.dnsv_reasons.proofs.lemmas.kept.KeptKeys.{Any, KeyOf, StandsHere, kept_set, unanchored_here}
use Rattle.dnsv_reasons.proofs.lemmas.kept.KeptLines.{AreHere, GoodLevel, Here, MayBeHere, here_above, here_after, here_cheapest, here_fault, here_nothing, rrset_here}

-- the least that has to be mended of a DNSKEY RRset tells of the key; the zones in front of its zone are those above it
pub record IsChosen (is_anchored : Bool) (zones : List ZoneFacts) (n : RecordNumber) : Type 0 where
  pub front : List ZoneFacts
  pub z : ZoneFacts
  pub rest : List ZoneFacts
  pub stands : zones ≡ front ++ z ∷ rest
  pub r : DnskeyFacts
  pub among : IsAmong r z.dnskeys.items
  pub m : Mended
  pub is : dnskey_mend (standing_of is_anchored (levels_of is_anchored front) z) z r ≡ Some m
  pub says : IsAmong (told.NotSelfSigned n) m.own
  pub number : RecordNumber
  pub only : AllByRecursion (KeyOf r number) m.own

-- ---- lines

chosen_line : (zones : List ZoneFacts) (Chosen : RecordNumber → Type 0) (line : Told) → Here zones Any line
    → ((n : RecordNumber) → told.NotSelfSigned n ≡ line → Chosen n) → Here zones Chosen line
chosen_line zones Chosen (told.Zone why.NoAnchor n) is each = is
chosen_line zones Chosen (told.Zone why.DnskeyMissing n) is each = tt
chosen_line zones Chosen (told.Zone why.DsMissing n) is each = tt
chosen_line zones Chosen (told.Entry w n) is each = tt
chosen_line zones Chosen (told.NotSelfSigned n) is each = each n refl
chosen_line zones Chosen (told.NotVouched k) is each = tt
chosen_line zones Chosen (told.Unsigned k) is each = tt
chosen_line zones Chosen (told.Signature w n) is each = tt
chosen_line zones Chosen (told.Follows n) is each = tt

chosen_lines : (zones : List ZoneFacts) (Chosen : RecordNumber → Type 0) (lines : List Told) → AllByRecursion (Here zones Any) lines
    → ((n : RecordNumber) → IsAmong (told.NotSelfSigned n) lines → Chosen n) → AllByRecursion (Here zones Chosen) lines
chosen_lines zones Chosen [] all each = tt
chosen_lines zones Chosen (line ∷ lines) all each = (
  chosen_line zones Chosen line all.0 (λ n is. each n (inl is)),
  chosen_lines zones Chosen lines all.1 (λ n among. each n (inr among)),
)

-- ---- a zone, over those in front of it

module _ (b : Bool) (zones front : List ZoneFacts) (z : ZoneFacts) (rest : List ZoneFacts) (whole : zones ≡ front ++ z ∷ rest) where
  abbrev its_standing : Standing
  its_standing = standing_of b (levels_of b front) z

  set_here : StandsHere zones (IsChosen b zones) z its_standing → (r : DnskeyFacts) → IsAmong r z.dnskeys.items → (m : Mended)
      → dnskey_mend its_standing z r ≡ Some m → AreHere zones (IsChosen b zones) m
  set_here st r among m is =
      let way = kept_set zones (IsChosen b zones) z its_standing st r m is in
      record {
        chain = way.chain;
        own = chosen_lines zones (IsChosen b zones) m.own way.own (λ n says. record {
          front = front;
          z = z;
          rest = rest;
          stands = whole;
          r = r;
          among = among;
          m = m;
          is = is;
          says = says;
          number = way.number;
          only = way.only;
        });
      }

  kept_here : StandsHere zones (IsChosen b zones) z its_standing → (r : DnskeyFacts) → IsAmong r z.dnskeys.items
      → AllByRecursion (AreHere zones (IsChosen b zones)) (kept_ways (dnskey_mend its_standing z r))
  unfolding kept_ways
  kept_here st r among = all_ways_of (AreHere zones (IsChosen b zones)) (dnskey_mend its_standing z r) (λ m is. set_here st r among m is)

  zone_here : StandsHere zones (IsChosen b zones) z its_standing
      → AllByRecursion (AreHere zones (IsChosen b zones)) (zone_ways its_standing z (map (dnskey_mend its_standing z) z.dnskeys.items))
  zone_here st =
      let sets = map (dnskey_mend its_standing z) z.dnskeys.items in
      let missing = fault (told.Zone why.DnskeyMissing its_standing.labels) in
      all_if (AreHere zones (IsChosen b zones)) (is_zone_trusted z) (nothing ∷ [])
      (if z.is_anchored then anchored_zone_ways its_standing z sets else unanchored its_standing ∷ [])
      (λ e. (here_nothing zones (IsChosen b zones), tt))
      (λ e. all_if (AreHere zones (IsChosen b zones)) z.is_anchored (anchored_zone_ways its_standing z sets) (unanchored its_standing ∷ [])
      (λ is. all_if (AreHere zones (IsChosen b zones)) (is_none z.dnskeys.items) (after its_standing.lead missing) (flat_map kept_ways sets)
      (λ none. here_after zones (IsChosen b zones) its_standing.lead missing st.lead
      (here_fault zones (IsChosen b zones) (told.Zone why.DnskeyMissing its_standing.labels) tt))
      (λ some. all_mapped (AreHere zones (IsChosen b zones)) (dnskey_mend its_standing z) kept_ways z.dnskeys.items (kept_here st)))
      (λ none. (unanchored_here zones (IsChosen b zones) z its_standing st none its_standing.is_anchored, tt)))

  holder_here : StandsHere zones (IsChosen b zones) z its_standing → (h : ℕ)
      → AllByRecursion (AreHere zones (IsChosen b zones)) (holder_ways (map (dnskey_mend its_standing z) z.dnskeys.items) h)
  unfolding holder_ways
  holder_here st h =
      let sets = map (dnskey_mend its_standing z) z.dnskeys.items in
      all_ways_of (AreHere zones (IsChosen b zones)) (mend_at sets h) (λ m is.
      let at = mapped_at (dnskey_mend its_standing z) z.dnskeys.items h (Some m) (kept_some (slice_get sets h) m is) in
      set_here st at.from (among_at z.dnskeys.items h at.from at.is) m at.same)

  key_here : StandsHere zones (IsChosen b zones) z its_standing → (key : ZoneKey)
      → MayBeHere zones (IsChosen b zones) (held (map (dnskey_mend its_standing z) z.dnskeys.items) key).mend
  unfolding held
  key_here st key m is =
      let sets = map (dnskey_mend its_standing z) z.dnskeys.items in
      of_cheapest (AreHere zones (IsChosen b zones)) (flat_map (holder_ways sets) key.holders.items) m
      (all_flat (AreHere zones (IsChosen b zones)) (holder_ways sets) key.holders.items (λ h among. holder_here st h)) is

  keys_here : StandsHere zones (IsChosen b zones) z its_standing → (i : ℕ) (k : Held)
      → slice_get (map (held (map (dnskey_mend its_standing z) z.dnskeys.items)) z.keys.items) i ≡ Some k
      → MayBeHere zones (IsChosen b zones) k.mend
  keys_here st i k is =
      let sets = map (dnskey_mend its_standing z) z.dnskeys.items in
      let at = mapped_at (held sets) z.keys.items i k is in
      subst (λ (each : Held). MayBeHere zones (IsChosen b zones) each.mend) at.same (key_here st at.from)

  level_here : StandsHere zones (IsChosen b zones) z its_standing → GoodLevel zones (IsChosen b zones) (level_of its_standing z)
  level_here st = record {
    zone = here_cheapest zones (IsChosen b zones) (zone_ways its_standing z (map (dnskey_mend its_standing z) z.dnskeys.items))
        (zone_here st);
    keys = keys_here st;
  }

  over_here : StandsHere zones (IsChosen b zones) z its_standing → GoodLevel zones (IsChosen b zones) (level_over b (levels_of b front) z)
  unfolding level_over
  over_here st = level_here st

-- ---- what a zone stands on

module _ (zones : List ZoneFacts) (Chosen : RecordNumber → Type 0) (levels : List Leveled)
    (good : AllByRecursion (GoodLevel zones Chosen) levels) where
  chain_here : (ds : DsFacts) → MayBeHere zones Chosen (chain_of levels ds)
  unfolding chain_of
  chain_here ds =
      here_cheapest zones Chosen (rrset_ways levels (zone_above levels) ds.rrset)
      (rrset_here zones Chosen levels good (zone_above levels) ds.rrset (here_above zones Chosen levels good))

  chain_kept : (ds : DsFacts) → AllByRecursion (AreHere zones Chosen) (kept_ways (chain_of levels ds))
  unfolding kept_ways
  chain_kept ds = all_ways_of (AreHere zones Chosen) (chain_of levels ds) (chain_here ds)

  lead_here : (n : ℕ) (z : ZoneFacts) → AllByRecursion (AreHere zones Chosen) (lead_ways n levels z (chains_of levels z))
  unfolding anchor_ways
  lead_here n z =
      let missing = fault (told.Zone why.DsMissing n) in
      all_if (AreHere zones Chosen) (has_none z) (after (zone_above levels) missing)
      (flat_map anchor_ways z.anchors.items ++ flat_map kept_ways (chains_of levels z))
      (λ none. here_after zones Chosen (zone_above levels) missing (here_above zones Chosen levels good)
      (here_fault zones Chosen (told.Zone why.DsMissing n) tt))
      (λ some. all_append (AreHere zones Chosen) (flat_map anchor_ways z.anchors.items) (flat_map kept_ways (chains_of levels z))
      (all_flat (AreHere zones Chosen) anchor_ways z.anchors.items (λ v among. (here_nothing zones Chosen, tt)))
      (all_mapped (AreHere zones Chosen) (chain_of levels) kept_ways z.ds.items (λ ds among. chain_kept ds)))

  chain_at : (z : ZoneFacts) (place : ℕ) → MayBeHere zones Chosen (mend_at (chains_of levels z) place)
  chain_at z place m is =
      let at = mapped_at (chain_of levels) z.ds.items place (Some m) (kept_some (slice_get (chains_of levels z) place) m is) in
      chain_here at.from m at.same

  standing_here : (b : Bool) (z : ZoneFacts) → slice_get zones (length levels) ≡ Some z → StandsHere zones Chosen z (standing_of b levels z)
  standing_here b z is = record {
    labels = is;
    lead = here_cheapest zones Chosen (lead_ways (length levels) levels z (chains_of levels z)) (lead_here (length levels) z);
    chains = chain_at z;
  }

-- ---- all zones

-- a zone more
pub levels_more : (b : Bool) (levels : List Leveled) (front : List ZoneFacts) (z : ZoneFacts)
    → levels_from b levels (front ++ z ∷ []) ≡ levels_from b levels front ++ level_over b (levels_from b levels front) z ∷ []
levels_more b levels [] z = refl
levels_more b levels (y ∷ ys) z = levels_more b (levels ++ level_over b levels y ∷ []) ys z

levels_count : (b : Bool) (levels : List Leveled) (front : List ZoneFacts)
    → length (levels_from b levels front) ≡ length levels + length front
levels_count b levels [] = omega arith
levels_count b levels (z ∷ zs) =
    let rest = levels_count b (levels ++ level_over b levels z ∷ []) zs in
    let one : length (levels ++ level_over b levels z ∷ []) ≡ length levels + 1 = length-append levels (level_over b levels z ∷ []) in
    omega (arith, rest, one)

next_good : (b : Bool) (zones front : List ZoneFacts) (z : ZoneFacts) (rest : List ZoneFacts) → zones ≡ front ++ z ∷ rest
    → AllByRecursion (GoodLevel zones (IsChosen b zones)) (levels_of b front)
    → GoodLevel zones (IsChosen b zones) (level_over b (levels_of b front) z)
next_good b zones front z rest whole good =
    let none : 0 + length front ≡ length front = omega arith in
    let count : length (levels_of b front) ≡ length front = levels_count b [] front ∙ none in
    over_here b zones front z rest whole
    (standing_here zones (IsChosen b zones) (levels_of b front) good b z
    (ap (slice_get zones) count ∙ ap (λ (all : List ZoneFacts). slice_get all (length front)) whole ∙ at_seam front z rest))

good_from : (b : Bool) (zones front rest : List ZoneFacts) → zones ≡ front ++ rest
    → AllByRecursion (GoodLevel zones (IsChosen b zones)) (levels_of b front)
    → AllByRecursion (GoodLevel zones (IsChosen b zones)) (levels_from b (levels_of b front) rest)
good_from b zones front [] whole good = good
good_from b zones front (z ∷ rest) whole good =
    let last = level_over b (levels_of b front) z in
    let Good : List Leveled → Type 0 = λ levels. AllByRecursion (GoodLevel zones (IsChosen b zones)) levels in
    let next : Good (levels_of b front ++ last ∷ []) =
    all_append (GoodLevel zones (IsChosen b zones)) (levels_of b front) (last ∷ []) good (next_good b zones front z rest whole good, tt) in
    let more : levels_of b (front ++ z ∷ []) ≡ levels_of b front ++ last ∷ [] = levels_more b [] front z in
    subst (λ (levels : List Leveled). Good (levels_from b levels rest)) more
    (good_from b zones (front ++ z ∷ []) rest (whole ∙ sym (append_assoc front (z ∷ []) rest)) (subst Good (sym more) next))

-- what is kept of zones tells what is so of them
pub levels_good : (b : Bool) (zones : List ZoneFacts) → AllByRecursion (GoodLevel zones (IsChosen b zones)) (levels_of b zones)
levels_good b zones = good_from b zones [] zones refl tt
