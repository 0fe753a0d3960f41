-- An explanation from its two halves.
use Rattle.std.proofs.Common.{◌≡◌, ℕ, List, [], subst}
use Rattle.dnsv_names.specs.Name.{Labels}
use Rattle.dnsv_verdict.specs.Verdict.{IsSettledVerdict}
use Rattle.dnsv_chain.specs.Basis.{CaseContents}
use Rattle.dnsv_verdict.specs.declared.link.Link.{Link}
use Rattle.dnsv_verdict.specs.declared.verdict.Verdict.{Verdict}
use Rattle.dnsv_verdict.specs.declared.verdict.Verdict.TheVariants.{Pending, Bogus, Indeterminate}
use Rattle.dnsv_derivations.specs.Explained.{Explained, setting_in}
use Rattle.dnsv_holding.specs.Explained.{explained_by}
use Rattle.dnsv_holding.specs.Holding.{IsEnd, IsEndTold, IsHoldingTold, IsLinkTold, IsUnproved, IsVerdictTold, IsWayTold, its_setting}
use Rattle.dnsv_explain.specs.Explanation.{IsExplanation, IsFailureTold}
use Rattle.dnsv_derivations.specs.Following.{EachFollows}
use Rattle.dnsv_derivations.specs.Places.{ArePlacesTold}
use Rattle.dnsv_derivations.specs.Saying.{Adds, AreBoth, AreEach}
use Rattle.dnsv_lines.specs.declared.line.Line.{Line}
use Rattle.dnsv_holding.proofs.lemmas.telling.DerivedLemmas.{said_first}
use Rattle.dnsv_explain.proofs.lemmas.telling.ExplanationLemmas.{way_follows}
use Rattle.dnsv_derivations.proofs.lemmas.SayingLemmas.{both_added}

-- what needs no more answers is proved
pub settled_apart : (verdict : Verdict) → IsSettledVerdict verdict → ¬ IsUnproved verdict
settled_apart Bogus settled unproved = settled
settled_apart Indeterminate settled unproved = settled
settled_apart verdict settled unproved = unproved

module _ (explained : Explained) where
  pub in_setting : (verdict : Verdict) (lines : List Line) → IsSettledVerdict verdict → EachFollows (its_setting explained verdict) [] lines
      → EachFollows (setting_in explained) [] lines
  in_setting (Pending unknown) lines settled follows = absurd settled
  in_setting verdict lines settled follows = follows

  end_as : (verdict : Verdict) (old new : List Line) → IsSettledVerdict verdict
      → Adds (IsEnd explained.rrsets explained.table.moment) old new → Adds (IsEndTold explained verdict) old new
  end_as (Pending unknown) old new settled added = absurd settled
  end_as Bogus old new settled added = absurd settled
  end_as Indeterminate old new settled added = absurd settled
  end_as verdict old new settled added = added

  places_as : (verdict : Verdict) (old new : List Line) → ¬ IsSettledVerdict verdict
      → Adds (ArePlacesTold explained.rrsets) old new → Adds (IsEndTold explained verdict) old new
  places_as (Pending unknown) old new open_still added = added
  places_as Bogus old new open_still added = added
  places_as Indeterminate old new open_still added = added
  places_as verdict old new open_still added = absurd (open_still tt)

  holding_is : (t : ℕ) (links : List Link) (last : Labels) (verdict : Verdict) → ¬ IsUnproved verdict → (lines : List Line)
      → IsHoldingTold explained t links last verdict [] lines → IsExplanation explained t links last verdict lines
  holding_is t links last Bogus apart lines is = absurd (apart tt)
  holding_is t links last Indeterminate apart lines is = absurd (apart tt)
  holding_is t links last verdict apart lines is = is

  failure_is : (t : ℕ) (links : List Link) (last : Labels) (verdict : Verdict) → IsUnproved verdict → (lines : List Line)
      → AreBoth (IsFailureTold (setting_in explained) last t) (IsHoldingTold explained t links last verdict) [] lines
      → IsExplanation explained t links last verdict lines
  failure_is t links last Bogus unproved lines is = is
  failure_is t links last Indeterminate unproved lines is = is
  failure_is t links last verdict unproved lines is = absurd unproved

  module _ (t : ℕ) (links : List Link) (last : Labels) (verdict : Verdict) where
    pub way_added : (old mid new : List Line) → Adds (AreEach (IsLinkTold (setting_in explained)) links) old mid
        → Adds (IsVerdictTold explained last t verdict) mid new → Adds (IsWayTold explained t links last verdict) old new
    way_added old mid new one two =
        both_added (AreEach (IsLinkTold (setting_in explained)) links) (IsVerdictTold explained last t verdict) old mid new one two

    pub settled_way_follows : (old new : List Line) → old ≡ [] → IsSettledVerdict verdict
        → Adds (IsWayTold explained t links last verdict) old new → EachFollows (setting_in explained) [] new
    settled_way_follows old new empty settled added =
        in_setting verdict new settled
        (way_follows explained t links last verdict [] new (said_first (IsWayTold explained t links last verdict) old new empty added))

    whole : (old mid new : List Line) → old ≡ [] → ¬ IsUnproved verdict → Adds (IsWayTold explained t links last verdict) old mid
        → Adds (IsEndTold explained verdict) mid new → IsExplanation explained t links last verdict new
    whole old mid new empty apart way end =
        let Way : List Line → List Line → Type 0 = IsWayTold explained t links last verdict in
        let End : List Line → List Line → Type 0 = IsEndTold explained verdict in
        holding_is t links last verdict apart new
        (said_first (IsHoldingTold explained t links last verdict) old new empty (both_added Way End old mid new way end))

    failed_whole : (old faults mid new : List Line) → old ≡ [] → IsUnproved verdict
        → Adds (IsFailureTold (setting_in explained) last t) old faults → Adds (IsWayTold explained t links last verdict) faults mid
        → Adds (IsEndTold explained verdict) mid new → IsExplanation explained t links last verdict new
    failed_whole old faults mid new empty unproved failure way end =
        let Way : List Line → List Line → Type 0 = IsWayTold explained t links last verdict in
        let End : List Line → List Line → Type 0 = IsEndTold explained verdict in
        let Failure : List Line → List Line → Type 0 = IsFailureTold (setting_in explained) last t in
        let Rest : List Line → List Line → Type 0 = IsHoldingTold explained t links last verdict in
        failure_is t links last verdict unproved new
        (said_first (AreBoth Failure Rest) old new empty (both_added Failure Rest old faults new failure (both_added Way End faults mid new way end)))

module _ (explained : Explained) (case : CaseContents) (same : explained ≡ explained_by case []) (t : ℕ) (links : List Link)
    (last : Labels) (verdict : Verdict) (old mid new : List Line) (empty : old ≡ []) where
  abbrev Whole : Explained → Type 0
  Whole each = IsExplanation each t links last verdict new

  pub open_ended : ¬ IsUnproved verdict → ¬ IsSettledVerdict verdict → Adds (IsWayTold explained t links last verdict) old mid
      → Adds (ArePlacesTold explained.rrsets) mid new → IsExplanation (explained_by case []) t links last verdict new
  open_ended apart open_still way places =
      subst Whole same (whole explained t links last verdict old mid new empty apart way (places_as explained verdict mid new open_still places))

  pub settled_ended : IsSettledVerdict verdict → Adds (IsWayTold explained t links last verdict) old mid
      → Adds (IsEnd explained.rrsets explained.table.moment) mid new → IsExplanation (explained_by case []) t links last verdict new
  settled_ended settled way end =
      subst Whole same (whole explained t links last verdict old mid new empty (settled_apart verdict settled) way (end_as explained verdict mid new settled end))

  -- where nothing is proved, with what fails before
  pub failed_ended : (faults : List Line) → IsUnproved verdict → Adds (IsFailureTold (setting_in explained) last t) old faults
      → Adds (IsWayTold explained t links last verdict) faults mid → Adds (ArePlacesTold explained.rrsets) mid new
      → IsExplanation (explained_by case []) t links last verdict new
  failed_ended faults unproved failure way places =
      subst Whole same (failed_whole explained t links last verdict old faults mid new empty unproved failure way
      (places_as explained verdict mid new (λ settled. settled_apart verdict settled unproved) places))
