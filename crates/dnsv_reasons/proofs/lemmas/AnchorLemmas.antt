-- Where no anchor is at or above the name that is asked for, that is said first, and where one is, not.
use Rattle.std.proofs.Common.{◌≡◌, inl, inr, ℕ, zero, suc, Bool, true, false, List, [], ◌∷◌, length, refl, sym, ap, ◌∙◌, subst, arith}
use Rattle.std.proofs.lemmas.Bool.{false≢true}
use Rattle.std.specs.List.{AllByRecursion}
use Rattle.std.specs.Prelude.{Contains}
use Rattle.dnsv_names.specs.Name.{rightmost}
use Rattle.dnsv_chain.specs.Basis.{HasAnchor}
use Rattle.dnsv_gaps.specs.Asking.{Asking}
use Rattle.dnsv_lines.specs.declared.line.Line.{Line}
use Rattle.dnsv_lines.specs.declared.line.Line.TheVariants as line
use Rattle.dnsv_lines.specs.declared.line.fault.signature.UntrustedSigner.{UntrustedSigner}
use Rattle.dnsv_lines.specs.declared.line.fault.zone.WhyZone.TheVariants as why
use Rattle.dnsv_line_laws.specs.Lower.{lower_line}
use Rattle.dnsv_mending.specs.Ways.{IsAmong}
use Rattle.dnsv_mending.specs.Zone.{levels_of}
use Rattle.dnsv_mending.specs.declared.told.Told.TheVariants as told
use Rattle.dnsv_reasons.specs.Failures.{AreFailures, AreToldOf}
use Rattle.dnsv_reasons.specs.Lines.{AreSaidLines, IsSaidLine}
use Rattle.dnsv_trust_reasons.specs.Places.{IsAbove}
use Rattle.dnsv_remedies.specs.Question.{no_anchor, question_remedy}
use Rattle.dnsv_remedies.specs.Said.{is_reason}
use Rattle.dnsv_remedies.specs.declared.said.Said.{Said}
use Rattle.dnsv_remedies.specs.declared.said.Said.TheVariants as said
use Rattle.dnsv_remedies.proofs.Once.{unanchored_first, unanchored_reasons}
use Rattle.dnsv_reasons.specs.laws.Anchors.{no_anchor_line}
use Rattle.dnsv_reasons.proofs.lemmas.OneLine.{one_said_line}
use Rattle.dnsv_reasons.proofs.lemmas.OnceLemmas.{said_by}
use Rattle.dnsv_reasons.proofs.lemmas.alike.AlikeLines.{lower_count, read, said_read}
use Rattle.dnsv_reasons.proofs.lemmas.alike.AlikeSaid.{is_plain, plain_same}
use Rattle.dnsv_reasons.proofs.lemmas.kept.KeptRemedies.{Fits}
use Rattle.dnsv_reasons.proofs.lemmas.kept.KeptTold.{all_among, anchored_whole, told_fits, whole_name}
use Rattle.dnsv_reasons.proofs.lemmas.kept.KeptZones.{IsChosen}

-- ---- the line

among_lines : (lines : List Line) (x : Line) → Contains lines x → IsAmong x lines
among_lines [] x member = absurd (omega (arith, member.1))
among_lines (y ∷ ys) x (zero, within, is) = inl (sym is)
among_lines (y ∷ ys) x (suc k, within, is) = inr (among_lines ys x (k, omega (arith, within), is))

not_true : (b : Bool) → (b ≡ true → ⊥) → b ≡ false
not_true true h = absurd (h refl)
not_true false h = refl

-- that it has none is what the line of the name says
says_none : (a : Asking) (labels : ℕ) → labels ≡ length a.name
    → IsSaidLine a (said.Trust (told.Zone why.NoAnchor labels)) (no_anchor_line a.name)
says_none a labels is =
    let above : IsAbove a.name labels a.name =
    record { within = omega (arith, is); is = sym (whole_name a.name) ∙ ap (rightmost a.name) (sym is) } in
    (a.name, above, refl)

-- what says a line that is read is that
said_as : (a : Asking) (each s : Said) (x : Line) → is_plain s ≡ true → read (lower_line x) ≡ s → IsSaidLine a each x → each ≡ s
said_as a each s x plain is by = sym (plain_same s each plain (sym is ∙ said_read a each x by))

-- ---- without an anchor

first_line : (a : Asking) (each : Said) (others : List Said) (lines : List Line) (x : Line) → IsSaidLine a each x
    → AreSaidLines a (each ∷ others) lines
    → (rest : List Line) × (lines ≡ x ∷ rest)
first_line a each others lines x is (inl are) =
    (are.1, are.4 ∙ ap (λ (first : Line). first ∷ are.1) (one_said_line a each are.0 x are.2 is))
first_line a each others lines x is (inr are) = absurd (are.0 x is)

module _ (a : Asking) (lines : List Line) (failures : AreFailures a lines) where
  question_unanchored : ¬ HasAnchor a.basis.anchors a.name → failures.are_told.question.is_anchored ≡ false
  question_unanchored none = not_true failures.are_told.question.is_anchored (λ is. none (failures.are_told.of_question.is_anchored.0 is))

  -- that is said first
  pub unanchored_begin : ¬ HasAnchor a.basis.anchors a.name → (rest : List Line) × (lines ≡ no_anchor_line a.name ∷ rest)
  unanchored_begin none =
      let are : AreToldOf a failures.told = failures.are_told in
      let q = are.question in
      let remedy = question_remedy (levels_of q.is_anchored are.zones) q in
      let begins = unanchored_first q remedy (question_unanchored none) in
      first_line a (no_anchor q) begins.rest lines (no_anchor_line a.name) (says_none a q.labels are.of_question.labels)
      (subst (λ (all : List Said). AreSaidLines a all lines) (are.are ∙ begins.is) failures.said)

  -- and nothing that only follows
  pub unanchored_follows : ¬ HasAnchor a.basis.anchors a.name → (untrusted : UntrustedSigner) → Contains lines (line.Follows untrusted) → ⊥
  unanchored_follows none untrusted member =
      let are : AreToldOf a failures.told = failures.are_told in
      let q = are.question in
      let remedy = question_remedy (levels_of q.is_anchored are.zones) q in
      let found =
      said_by a failures.told lines (line.Follows untrusted) failures.said (among_lines lines (line.Follows untrusted) member) in
      let each : found.0 ≡ said.Trust (told.Follows untrusted.signature.number) =
      said_as a found.0 (said.Trust (told.Follows untrusted.signature.number)) (line.Follows untrusted) refl refl found.2 in
      let reasons =
      subst (AllByRecursion (λ line. is_reason line ≡ true)) (sym are.are) (unanchored_reasons q remedy (question_unanchored none)) in
      let is : is_reason found.0 ≡ true = all_among (λ line. is_reason line ≡ true) failures.told found.0 reasons found.1 in
      false≢true (sym (ap is_reason each) ∙ is)

  -- ---- with one

  pub anchored_none : HasAnchor a.basis.anchors a.name → Contains lines (no_anchor_line a.name) → ⊥
  anchored_none has member =
      let are : AreToldOf a failures.told = failures.are_told in
      let q = are.question in
      let here = no_anchor_line a.name in
      let found = said_by a failures.told lines here failures.said (among_lines lines here member) in
      let each : found.0 ≡ said.Trust (told.Zone why.NoAnchor (length a.name)) =
      said_as a found.0 (said.Trust (told.Zone why.NoAnchor (length a.name))) here refl
      (ap (λ (n : ℕ). said.Trust (told.Zone why.NoAnchor n)) (lower_count a.name)) found.2 in
      let fit = told_fits a are.zones are.of_zones q are.of_question in
      let its = all_among (Fits are.zones (IsChosen q.is_anchored are.zones) fit.0) failures.told found.0
      (subst (AllByRecursion (Fits are.zones (IsChosen q.is_anchored are.zones) fit.0)) (sym are.are) fit.1) found.1 in
      let bare = subst (Fits are.zones (IsChosen q.is_anchored are.zones) fit.0) each its in
      let zone = are.of_zones.each (length a.name) bare.0 bare.1 in
      false≢true (sym bare.2 ∙ zone.anchored.1 (anchored_whole a.basis.anchors a.name has))
