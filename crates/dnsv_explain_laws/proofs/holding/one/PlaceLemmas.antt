-- Places are told in one way.
use Rattle.std.proofs.Common.{◌≡◌, ◌∙◌, ⊎_elim, ℕ, List, [], ◌∷◌, arith, map, refl, sym, ap, subst}
use Rattle.std.specs.List.{Contains}
use Rattle.dnsv_canonical.specs.Rrsets.{IsNumbered, ReceivedRrset}
use Rattle.dnsv_holding.specs.Holding.{IsEnd}
use Rattle.dnsv_derivations.specs.Following.{IsPlaceOf}
use Rattle.dnsv_derivations.specs.Places.{ArePlacesOf, ArePlacesTold, place_numbers}
use Rattle.dnsv_derivations.specs.intervals.Holding.{AreShownValidAt}
use Rattle.dnsv_lines.specs.declared.line.Line.{Line}
use Rattle.dnsv_lines.specs.declared.line.Line.TheVariants as line
use Rattle.dnsv_lines.specs.declared.line.place.RrsetPlace.{RrsetPlace}
use Rattle.dnsv_canonical.proofs.NumberLemmas.{one_numbered}
use Rattle.dnsv_derivations.proofs.lemmas.intervals.HoldingLemmas.{one_around}
use Rattle.dnsv_derivations.proofs.lemmas.intervals.MomentLemmas.{first_or_behind, is_behind, is_first}
use Rattle.dnsv_derivations.proofs.lemmas.one.StepLemmas.{IsOne}
use Rattle.dnsv_denial.proofs.lemmas.RisingLemmas.{one_rising}

-- ---- places

module _ (rrsets : List ReceivedRrset) where
  one_place : (a b : RrsetPlace) → a.rrset ≡ b.rrset → IsPlaceOf rrsets a → IsPlaceOf rrsets b → a ≡ b
  one_place a b number x y =
      let Of : ℕ → Type 0 = λ n. IsNumbered rrsets n x.rrset in
      let same : x.rrset ≡ y.rrset = one_numbered rrsets b.rrset x.rrset y.rrset (subst Of number x.is_rrset) y.is_rrset in
      let message : a.message ≡ b.message = x.message ∙ ap (λ (each : ReceivedRrset). each.message) same ∙ sym y.message in
      let section : a.section ≡ b.section = x.section ∙ ap (λ (each : ReceivedRrset). each.section) same ∙ sym y.section in
      let owner : a.owner ≡ b.owner = x.owner ∙ ap (λ (each : ReceivedRrset). each.owner) same ∙ sym y.owner in
      let rtype : a.rtype.0 ≡ b.rtype.0 = x.rtype ∙ ap (λ (each : ReceivedRrset). each.rtype) same ∙ sym y.rtype in
      λ i. record { rrset = number i; message = message i; section = section i; owner = owner i; rtype = record { 0 = rtype i } }

  abbrev AreAll : List RrsetPlace → Type 0
  AreAll places = (place : RrsetPlace) → Contains places place → IsPlaceOf rrsets place

  behind : (p : RrsetPlace) (places : List RrsetPlace) → AreAll (p ∷ places) → AreAll places
  behind p places all place there = all place (is_behind p places place there)

  one_list : (a b : List RrsetPlace) → place_numbers a ≡ place_numbers b → AreAll a → AreAll b → a ≡ b
  one_list [] [] same x y = refl
  one_list [] (q ∷ b) same x y = cc
  one_list (p ∷ a) [] same x y = cc
  one_list (p ∷ a) (q ∷ b) same x y =
      let number : p.rrset ≡ q.rrset = cc in
      let rest : place_numbers a ≡ place_numbers b = cc in
      let head : p ≡ q = one_place p q number (x p (is_first p a)) (y q (is_first q b)) in
      let tail : a ≡ b = one_list a b rest (behind p a x) (behind q b y) in
      λ i. head i ∷ tail i

  -- the number of a place is an RRset's
  numbered : (places : List RrsetPlace) (n : ℕ) → AreAll places → Contains (place_numbers places) n → (rrset : ReceivedRrset) × IsNumbered rrsets n rrset
  numbered [] n all there = absurd (omega (arith, there.1))
  numbered (p ∷ places) n all there =
      let Of : ℕ → Type 0 = λ each. (rrset : ReceivedRrset) × IsNumbered rrsets each rrset in
      ⊎_elim
      (λ (same : p.rrset ≡ n). let is = all p (is_first p places) in subst Of same (is.rrset, is.is_rrset))
      (λ (later : Contains (place_numbers places) n). numbered places n (behind p places all) later)
      (first_or_behind p.rrset (place_numbers places) n there)

  pub one_places : (lines : List Line) (a b : List RrsetPlace) → ArePlacesOf rrsets lines a → ArePlacesOf rrsets lines b → a ≡ b
  one_places lines a b x y =
      let up : (n : ℕ) → Contains (place_numbers a) n → Contains (place_numbers b) n =
      λ n there. let at = numbered a n x.each there in y.every n at.0 (x.named n there) at.1 in
      let down : (n : ℕ) → Contains (place_numbers b) n → Contains (place_numbers a) n =
      λ n there. let at = numbered b n y.each there in x.every n at.0 (y.named n there) at.1 in
      one_list a b (one_rising (place_numbers a) (place_numbers b) x.rising y.rising up down) x.each y.each

  pub one_places_told : IsOne (ArePlacesTold rrsets)
  one_places_told before a b x y =
      x.are ∙ ap (λ (each : List RrsetPlace). map (λ place. line.Rrset place) each) (one_places before x.places y.places x.stand y.stand) ∙ sym y.are

  pub one_end : (moment : ℕ) → IsOne (IsEnd rrsets moment)
  one_end moment before a b x y =
      let interval : x.interval ≡ y.interval = one_around (AreShownValidAt rrsets before) moment x.interval y.interval x.holds y.holds in
      let places : x.places ≡ y.places = one_places before x.places y.places x.stand y.stand in
      x.are ∙ (λ i. line.Holds (interval i) ∷ map (λ place. line.Rrset place) (places i)) ∙ sym y.are
