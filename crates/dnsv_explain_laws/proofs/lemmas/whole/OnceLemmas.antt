-- No line stands twice in an explanation.
use Rattle.std.proofs.Common.{◌≡◌, ◌≢◌, ◌≤◌, ◌++◌, ℕ, List, [], ◌∷◌, map, refl, sym, ap, subst, arith}
use Rattle.dnsv_names.specs.Name.{Labels}
use Rattle.dnsv_canonical.specs.Rrsets.{ReceivedRrset}
use Rattle.dnsv_verdict.specs.declared.link.Link.{Link}
use Rattle.dnsv_verdict.specs.declared.verdict.Verdict.{Verdict}
use Rattle.dnsv_verdict.specs.declared.verdict.Verdict.TheVariants.{Pending, Bogus, Indeterminate}
use Rattle.dnsv_verifier.proofs.NumberLemmas.{contains_from_map}
use Rattle.dnsv_verifier.specs.declared.entry.Entry.{Entry}
use Rattle.dnsv_derivations.specs.Explained.{Explained, Setting, setting_in}
use Rattle.dnsv_holding.specs.Explained.{hoped}
use Rattle.dnsv_holding.specs.Holding.{IsEnd, IsHopeTold, IsLinkTold, IsSettledTold}
use Rattle.dnsv_explain.specs.Explanation.{IsExplanation, IsFailureTold}
use Rattle.dnsv_reasons.specs.laws.Once.{AreOnce}
use Rattle.dnsv_derivations.specs.Places.{ArePlacesOf, ArePlacesTold}
use Rattle.dnsv_derivations.specs.Saying.{AreBoth, AreEach}
use Rattle.dnsv_derivations.specs.derivations.HeldTo.{IsHeldTo}
use Rattle.dnsv_lines.specs.declared.line.Line.{Line}
use Rattle.dnsv_lines.specs.declared.line.Line.TheVariants as line
use Rattle.dnsv_lines.specs.declared.line.place.RrsetPlace.{RrsetPlace}
use Rattle.dnsv_explain_laws.proofs.holding.MemberLemmas.{none_in}
use Rattle.dnsv_explain_laws.proofs.lemmas.whole.DerivationLemmas.{IsBasic}
use Rattle.dnsv_explain_laws.proofs.lemmas.whole.FailureLemmas.{failure_kinds, failure_once}
use Rattle.dnsv_explain_laws.proofs.lemmas.whole.FreshLemmas.{HaveKinds, IsFresh, Lack, append_fresh, both_fresh, kind, kinds_append, kinds_one, lacks, one_fresh, weaker}
use Rattle.dnsv_explain_laws.proofs.lemmas.whole.ListLemmas.{once_append, once_increasing}
use Rattle.dnsv_explain_laws.proofs.lemmas.whole.SettledLemmas.{IsSettling, IsUncut, held_fresh, links_fresh, settled_fresh, uncut_append}

abbrev Any : ℕ → Type 0
Any n = Unit {0}

any : (Such : ℕ → Type 0) (before lines : List Line) → IsFresh Such before lines → IsFresh Any before lines
any Such before lines fresh = weaker Such Any (λ n is. tt) before lines fresh

-- ---- the end

abbrev place_line : RrsetPlace → Line
place_line place = line.Rrset place

places_fresh : (rrsets : List ReceivedRrset) (told before : List Line) (places : List RrsetPlace) → ArePlacesOf rrsets told places → Lack 7 before
    → IsFresh Any before (map place_line places)
places_fresh rrsets told before places are lack = record {
  once = once_increasing (λ (place : RrsetPlace). place.rrset) place_line
      (λ a b same. let equal : a ≡ b = cc in ap (λ (place : RrsetPlace). place.rrset) equal) places are.rising;
  unsaid = λ each there.
      let from = contains_from_map place_line places each there in
      let Kind : Line → Type 0 = λ one. kind one ≡ 7 in lacks 7 before lack each (subst Kind from.2 refl);
  kinds = λ each there. tt;
}

places_told_fresh : (rrsets : List ReceivedRrset) (before lines : List Line) → ArePlacesTold rrsets before lines → Lack 7 before
    → IsFresh Any before lines
places_told_fresh rrsets before lines told lack =
    let Fresh : List Line → Type 0 = λ all. IsFresh Any before all in
    subst Fresh (sym told.are) (places_fresh rrsets before before told.places told.stand lack)

end_fresh : (rrsets : List ReceivedRrset) (moment : ℕ) (before lines : List Line) → IsEnd rrsets moment before lines → Lack 4 before
    → Lack 7 before → IsFresh Any before lines
end_fresh rrsets moment before lines end no_holds no_places =
    let holds : Line = line.Holds end.interval in
    let Fresh : List Line → Type 0 = λ all. IsFresh Any before all in
    subst Fresh (sym end.are)
    (append_fresh Any before (holds ∷ []) (map place_line end.places)
    (one_fresh Any before (holds ∷ []) holds refl (lacks 4 before no_holds holds refl) tt)
    (places_fresh rrsets before (before ++ holds ∷ []) end.places end.stand
    (kinds_append (λ n. n ≢ 7) before (holds ∷ []) no_places
    (kinds_one (λ n. n ≢ 7) holds (λ is. let clash : 4 ≡ 7 = is in omega (arith, clash))))))

-- ---- what holds

nothing_lacks : (n : ℕ) → Lack n []
nothing_lacks n each there = absurd (none_in [] each refl there)

module _ (explained : Explained) (t : ℕ) (links : List Link) (last : Labels) where
  abbrev Links : List Line → List Line → Type 0
  Links = AreEach (IsLinkTold (setting_in explained)) links

  -- a way whose lines have such kinds, and then what stands behind
  module _ (Such : ℕ → Type 0) (basic : (n : ℕ) → IsBasic n → Such n) (Told End : List Line → List Line → Type 0)
      (told : (old new : List Line) → HaveKinds IsBasic old → Told old new → IsFresh Such old new)
      (end : (old new : List Line) → HaveKinds Such old → End old new → IsFresh Any old new) where
    holding_once : (lines : List Line) → AreBoth (AreBoth Links Told) End [] lines → AreOnce lines
    holding_once lines is =
        let way = is.says_first in
        let front = links_fresh (setting_in explained) links [] way.first way.says_first in
        let all : IsFresh Such [] is.first =
        both_fresh Such Links Told [] is.first way (weaker IsBasic Such basic [] way.first front)
        (told way.first way.second front.kinds way.says_second) in
        (both_fresh Any (AreBoth Links Told) End [] lines is (any Such [] is.first all) (end is.first is.second all.kinds is.says_second)).once

  uncut : (lines : List Line) → HaveKinds IsBasic lines → IsUncut lines
  uncut lines basic = uncut_append [] lines (record { case = nothing_lacks 1; unusable = nothing_lacks 2 }) basic

  settled_once : (verdict : Verdict) (lines : List Line)
      → AreBoth (AreBoth Links (IsSettledTold (setting_in explained) last t verdict)) (IsEnd explained.rrsets explained.table.moment) [] lines
      → AreOnce lines
  settled_once verdict =
      holding_once IsSettling (λ n is. omega (arith, is)) (IsSettledTold (setting_in explained) last t verdict)
      (IsEnd explained.rrsets explained.table.moment)
      (λ old new basic told. settled_fresh (setting_in explained) last t verdict old new (uncut old basic) told)
      (λ old new few end. end_fresh explained.rrsets explained.table.moment old new end
      (λ each there is. let low = few each there in omega (arith, low, is))
      (λ each there is. let low = few each there in omega (arith, low, is)))

  -- ---- hope

  abbrev IsHoping : ℕ → Type 0
  IsHoping n = n ≤ 3

  hope_fresh : (unknown : List Entry) (old new : List Line) → HaveKinds IsBasic old → IsHopeTold explained last t unknown old new
      → IsFresh IsHoping old new
  hope_fresh unknown old new basic hope =
      let told = hope.told in
      let this : Line = line.Hope hope.kind in
      let none : (n : ℕ) → n ≤ 2 → 1 ≤ n → Lack n (old ++ told.first) =
      λ n few some. let Lacks : List Line → Type 0 = λ all. Lack n (old ++ all) in
      subst Lacks (sym told.says_first)
      (kinds_append (λ k. k ≢ n) old (this ∷ []) (λ each there is. let low = basic each there in omega (arith, low, is, some))
      (kinds_one (λ k. k ≢ n) this (λ is. let clash : 3 ≡ n = is in omega (arith, clash, few)))) in
      both_fresh IsHoping (λ before more. more ≡ this ∷ []) (IsSettledTold (setting_in (hoped explained unknown)) last t hope.verdict) old new told
      (one_fresh IsHoping old told.first this told.says_first
      (lacks 3 old (λ each there is. let low = basic each there in omega (arith, low, is)) this refl) (omega arith))
      (weaker IsSettling IsHoping (λ n is. omega (arith, is)) (old ++ told.first) told.second
      (settled_fresh (setting_in (hoped explained unknown)) last t hope.verdict (old ++ told.first) told.second
      (record { case = none 1 (omega arith) (omega arith); unusable = none 2 (omega arith) (omega arith) }) told.says_second))

  pending_once : (unknown : List Entry) (lines : List Line)
      → AreBoth (AreBoth Links (IsHopeTold explained last t unknown)) (ArePlacesTold explained.rrsets) [] lines → AreOnce lines
  pending_once unknown =
      holding_once IsHoping (λ n is. omega (arith, is)) (IsHopeTold explained last t unknown) (ArePlacesTold explained.rrsets)
      (hope_fresh unknown)
      (λ old new few told. places_told_fresh explained.rrsets old new told (λ each there is. let low = few each there in omega (arith, low, is)))

  -- ---- what fails, and how far trust holds

  failed_once : (lines : List Line)
      → AreBoth (IsFailureTold (setting_in explained) last t)
      (AreBoth (AreBoth Links (IsHeldTo (setting_in explained) last)) (ArePlacesTold explained.rrsets)) [] lines
      → AreOnce lines
  failed_once lines is =
      let setting : Setting = setting_in explained in
      let Held : List Line → List Line → Type 0 = IsHeldTo setting last in
      let holding = is.says_second in
      let way = holding.says_first in
      let before : List Line = is.first in
      let front = links_fresh setting links before way.first way.says_first in
      let all : IsFresh IsBasic before holding.first =
      both_fresh IsBasic Links Held before holding.first way front
      (held_fresh setting last (before ++ way.first) way.second way.says_second) in
      let failed = failure_kinds setting last t [] before is.says_first in
      let lack : Lack 7 (before ++ holding.first) =
      kinds_append (λ n. n ≢ 7) before holding.first failed (λ each there at. let low = all.kinds each there in omega (arith, low, at)) in
      let rest : IsFresh Any before is.second =
      both_fresh Any (AreBoth Links Held) (ArePlacesTold explained.rrsets) before is.second holding (any IsBasic before holding.first all)
      (places_told_fresh explained.rrsets (before ++ holding.first) holding.second holding.says_second lack) in
      let Once : List Line → Type 0 = λ some. AreOnce some in
      subst Once (sym is.parts)
      (once_append before is.second (failure_once setting last t [] before is.says_first) rest.once
      (λ each left right. rest.unsaid each right left))

  -- ---- the whole

  pub explanation_once : (verdict : Verdict) (lines : List Line) → IsExplanation explained t links last verdict lines → AreOnce lines
  explanation_once (Pending unknown) lines is = pending_once unknown lines is
  explanation_once Bogus lines is = failed_once lines is
  explanation_once Indeterminate lines is = failed_once lines is
  explanation_once verdict lines is = settled_once verdict lines is
