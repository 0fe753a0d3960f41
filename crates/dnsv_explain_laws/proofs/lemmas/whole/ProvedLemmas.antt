-- Where something is proved, or may be, nothing is said to fail.
use Rattle.std.proofs.Common.{◌≡◌, ℕ, List, [], ◌∷◌, map, sym, subst}
use Rattle.std.specs.List.{AllByRecursion, Contains}
use Rattle.dnsv_names.specs.Name.{Labels}
use Rattle.dnsv_canonical.proofs.OrderLemmas.{each_of}
use Rattle.dnsv_verdict.specs.declared.link.Link.{Link}
use Rattle.dnsv_verdict.specs.declared.verdict.Verdict.{Verdict}
use Rattle.dnsv_verdict.specs.declared.verdict.Verdict.TheVariants.{Pending, Bogus, Indeterminate}
use Rattle.dnsv_verifier.specs.declared.entry.Entry.{Entry}
use Rattle.dnsv_derivations.specs.Explained.{Explained, Setting, setting_in}
use Rattle.dnsv_holding.specs.Explained.{hoped}
use Rattle.dnsv_holding.specs.Holding.{IsEnd, IsHopeTold, IsLinkTold, IsSettledTold, IsUnproved}
use Rattle.dnsv_explain.specs.Explanation.{IsExplanation}
use Rattle.dnsv_derivations.specs.Places.{ArePlacesTold}
use Rattle.dnsv_derivations.specs.Saying.{AreBoth, AreEach}
use Rattle.dnsv_lines.specs.declared.line.Line.{Line}
use Rattle.dnsv_lines.specs.declared.line.Line.TheVariants as line
use Rattle.dnsv_lines.specs.declared.line.place.RrsetPlace.{RrsetPlace}
use Rattle.dnsv_explain_laws.proofs.holding.marks.LineLemmas.{IsLineOf, both, links_told, settled_told}

abbrev Every : Setting → Type 0
Every setting = Unit {0}

abbrev Hold : List Line → Type 0
Hold lines = AllByRecursion (IsLineOf Every) lines

places_hold : (places : List RrsetPlace) → Hold (map (λ place. line.Rrset place) places)
places_hold [] = tt
places_hold (place ∷ places) = (tt, places_hold places)

module _ (explained : Explained) (t : ℕ) (links : List Link) (last : Labels) where
  holding : (Told End : List Line → List Line → Type 0) → ((old new : List Line) → Told old new → Hold new)
      → ((old new : List Line) → End old new → Hold new) → (lines : List Line)
      → AreBoth (AreBoth (AreEach (IsLinkTold (setting_in explained)) links) Told) End [] lines → Hold lines
  holding Told End told end lines is =
      both Every (AreBoth (AreEach (IsLinkTold (setting_in explained)) links) Told) End [] lines is
      (λ old new way.
      both Every (AreEach (IsLinkTold (setting_in explained)) links) Told old new way
      (λ older newer each. links_told Every (setting_in explained) tt links older newer each) told)
      end

  ending : (old new : List Line) → IsEnd explained.rrsets explained.table.moment old new → Hold new
  ending old new end = subst Hold (sym end.are) (tt, places_hold end.places)

  settled : (verdict : Verdict) (lines : List Line)
      → AreBoth (AreBoth (AreEach (IsLinkTold (setting_in explained)) links) (IsSettledTold (setting_in explained) last t verdict))
      (IsEnd explained.rrsets explained.table.moment) [] lines → Hold lines
  settled verdict lines is =
      holding (IsSettledTold (setting_in explained) last t verdict) (IsEnd explained.rrsets explained.table.moment)
      (settled_told Every (setting_in explained) tt last t verdict) ending lines is

  hope_holds : (unknown : List Entry) (old new : List Line) → IsHopeTold explained last t unknown old new → Hold new
  hope_holds unknown old new hope =
      both Every (λ before more. more ≡ line.Hope hope.kind ∷ []) (IsSettledTold (setting_in (hoped explained unknown)) last t hope.verdict) old new hope.told
      (λ older newer same. subst Hold (sym same) (tt, tt))
      (settled_told Every (setting_in (hoped explained unknown)) tt last t hope.verdict)

  all_hold : (verdict : Verdict) → ¬ IsUnproved verdict → (lines : List Line) → IsExplanation explained t links last verdict lines → Hold lines
  all_hold (Pending unknown) proved lines is =
      holding (IsHopeTold explained last t unknown) (ArePlacesTold explained.rrsets) (hope_holds unknown)
      (λ old new told. subst Hold (sym told.are) (places_hold told.places)) lines is
  all_hold Bogus proved lines is = absurd (proved tt)
  all_hold Indeterminate proved lines is = absurd (proved tt)
  all_hold verdict proved lines is = settled verdict lines is

  -- no line says that something fails
  pub line_holds : (verdict : Verdict) → ¬ IsUnproved verdict → (lines : List Line) → IsExplanation explained t links last verdict lines
      → (each : Line) → Contains lines each → IsLineOf Every each
  line_holds verdict proved lines is each there = each_of (IsLineOf Every) lines each (all_hold verdict proved lines is) there
