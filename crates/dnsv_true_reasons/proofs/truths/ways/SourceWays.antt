-- What is told of the sources of a zone, to deny a question or to prove an unsigned delegation.
use Rattle.std.proofs.Common.{◌≡◌, inl, inr, ℕ, ◌||◌, Bool, true, false, if◌then◌else◌, List, [], ◌∷◌, Some, map, refl, sym, subst}
use Rattle.std.proofs.lemmas.Bool.{false≢true}
use Rattle.std.proofs.lemmas.Option.{same_Some}
use Rattle.std.specs.List.{AllByRecursion}
use Rattle.dnsv_lines.specs.declared.line.denial.Role.TheVariants as role
use Rattle.dnsv_lines.specs.declared.line.fault.denial.WhySource.{WhySource}
use Rattle.dnsv_lines.specs.declared.line.fault.denial.WhySource.TheVariants as why
use Rattle.dnsv_mending.specs.Level.{Leveled}
use Rattle.dnsv_mending.specs.Mend.{is_none}
use Rattle.dnsv_mending.specs.Ways.{IsAmong}
use Rattle.dnsv_mending.specs.declared.facts.signature.RrsetFacts.{RrsetFacts}
use Rattle.dnsv_mending.specs.declared.facts.zone.ZoneFacts.{ZoneFacts}
use Rattle.dnsv_mending.specs.declared.price.Class.TheVariants as class
use Rattle.dnsv_mending.specs.declared.told.Told.{Told}
use Rattle.dnsv_mending.proofs.AllWays.{none_some}
use Rattle.dnsv_remedies.specs.Cuts.{cut_remedy, lacks_nothing, opt_out_remedy, signed_remedy}
use Rattle.dnsv_remedies.specs.Parts.{part, part_of_one}
use Rattle.dnsv_remedies.specs.Remedy.{Remedied, both, missing, nothing}
use Rattle.dnsv_remedies.specs.Sources.{at_remedy, case_remedy, closed_line, held_line, next_remedy, shown_remedy, wildcard_remedy}
use Rattle.dnsv_remedies.specs.declared.facts.cut.CutCase.{CutCase}
use Rattle.dnsv_remedies.specs.declared.facts.cut.CutCase.TheVariants as cut
use Rattle.dnsv_remedies.specs.declared.facts.denial.EncloserFacts.{EncloserFacts}
use Rattle.dnsv_remedies.specs.declared.facts.denial.RecordsAt.{RecordsAt}
use Rattle.dnsv_remedies.specs.declared.facts.denial.RecordsAt.TheVariants as records
use Rattle.dnsv_remedies.specs.declared.facts.denial.SourceCase.{SourceCase}
use Rattle.dnsv_remedies.specs.declared.facts.denial.SourceCase.TheVariants as case
use Rattle.dnsv_remedies.specs.declared.facts.denial.WildcardFacts.{WildcardFacts}
use Rattle.dnsv_remedies.specs.declared.facts.denial.WildcardFacts.TheVariants as wildcard
use Rattle.dnsv_remedies.specs.declared.facts.name.AskedName.{AskedName}
use Rattle.dnsv_remedies.specs.declared.facts.name.AskedName.TheVariants as name
use Rattle.dnsv_remedies.specs.declared.facts.name.SourceNumber.{SourceNumber}
use Rattle.dnsv_remedies.specs.declared.said.Said.{Said}
use Rattle.dnsv_remedies.specs.declared.said.Said.TheVariants as said
use Rattle.dnsv_true_reasons.proofs.truths.ways.PartTold.{IsOfPart, IsOneAt, IsOneOfCase, IsOneOfCut, IsOneOfWildcard}
use Rattle.dnsv_true_reasons.proofs.truths.ways.PartWays.{off_by_not, one_says, part_says}
use Rattle.dnsv_true_reasons.proofs.truths.ways.RemedyLines.{Says, says_both, says_missing, says_nothing}
use Rattle.dnsv_true_reasons.proofs.truths.ways.SaidOf.{IsOfCase, IsOfCut, IsOfRecordsAt, IsOfWildcard, IsProvingCase}
use Rattle.dnsv_true_reasons.proofs.truths.ways.SignatureWays.{LevelsOf}

all_held : (Q : Said → Type 0) (n : SourceNumber) (x : AskedName) (held : List WhySource)
    → ((w : WhySource) → IsAmong w held → Q (said.Source w n x))
    → AllByRecursion Q (map (held_line n x) held)
unfolding held_line
all_held Q n x [] each = tt
all_held Q n x (w ∷ held) each = (each w (inl refl), all_held Q n x held (λ v among. each v (inr among)))

module _ (Q : Said → Type 0) (zones : List ZoneFacts) (levels : List Leveled) (are : LevelsOf (λ t. Q (said.Trust t)) zones levels)
    (n : SourceNumber) where
  -- ---- a question

  at_says : (x : AskedName) (found : RecordsAt) → ((r : RrsetFacts) (t : Told) → IsOneAt found r → IsOfPart zones n.zone r t
      → Q (said.Trust t))
      → ((line : Said) → IsOfRecordsAt n x found line → Q line) → Says Q (at_remedy levels n x found)
  at_says x (records.Denying rrsets) parts lines = part_says Q zones levels are n.zone rrsets.items [] parts (λ e. tt)
  at_says x (records.Holding h) parts lines =
      let said_lines = map (held_line n x) h.held.items in
      says_both Q (part levels n.zone h.rrsets.items []) (missing class.Lacking said_lines)
      (part_says Q zones levels are n.zone h.rrsets.items [] parts (λ e. tt))
      (says_missing Q class.Lacking said_lines (all_held Q n x h.held.items (λ w among. lines (said.Source w n x) (w, among, refl))))

  wildcard_says : (ce : ℕ) (w : WildcardFacts) → ((r : RrsetFacts) (t : Told) → IsOneOfWildcard w r → IsOfPart zones n.zone r t
      → Q (said.Trust t))
      → ((line : Said) → IsOfWildcard n ce w line → Q line) → Says Q (wildcard_remedy levels n ce w)
  wildcard_says ce wildcard.OptedOut parts lines = says_nothing Q
  wildcard_says ce (wildcard.At found) parts lines = at_says (name.Wildcard ce) found parts lines
  wildcard_says ce (wildcard.Covered rrsets) parts lines =
      part_says Q zones levels are n.zone rrsets.items (said.Source (why.CoverMissing role.Wildcard) n (name.Wildcard ce) ∷ []) parts
      (λ none. (lines _ (none, refl), tt))

  shown_case : (rrsets : List RrsetFacts) (b : Bool) → ((r : RrsetFacts) (t : Told) → IsAmong r rrsets → IsOfPart zones n.zone r t
      → Q (said.Trust t))
      → Says Q (if b then nothing else part levels n.zone rrsets [])
  shown_case rrsets true parts = says_nothing Q
  shown_case rrsets false parts = part_says Q zones levels are n.zone rrsets [] parts (λ e. tt)

  next_says : (labels : ℕ) (e : EncloserFacts) → ((r : RrsetFacts) (t : Told) → IsAmong r e.covers.items → IsOfPart zones n.zone r t
      → Q (said.Trust t))
      → ((line : Said) → IsOfCase labels n (case.Encloser e) line → Q line) → Says Q (next_remedy levels labels n e)
  next_says labels e parts lines =
      part_says Q zones levels are n.zone e.covers.items
      (said.Source (why.CoverMissing role.NextCloser) n (name.At e.next) ∷ said.Source why.MatchMissing n (name.At labels) ∷ []) parts
      (λ none. (lines _ (inl (none, inl refl)), (lines _ (inl (none, inr refl)), tt)))

  pub case_says : (labels : ℕ) (c : SourceCase) → ((r : RrsetFacts) (t : Told) → IsOneOfCase c r → IsOfPart zones n.zone r t
      → Q (said.Trust t))
      → ((line : Said) → IsOfCase labels n c line → Q line) → Says Q (case_remedy levels labels n c)
  case_says labels (case.Closed c) parts lines =
      let line = closed_line n c in
      says_both Q (part_of_one levels n.zone c.rrset) (missing class.Missing (line ∷ []))
      (one_says Q zones levels are n.zone c.rrset (λ t. parts c.rrset t refl))
      (says_missing Q class.Missing (line ∷ []) (lines line refl, tt))
  case_says labels (case.At found) parts lines = at_says (name.At labels) found parts lines
  case_says labels case.Apex parts lines = says_missing Q class.Lacking (said.Source why.MatchMissing n (name.At labels) ∷ [])
      (lines _ refl, tt)
  case_says labels (case.NonTerminal rrsets) parts lines = part_says Q zones levels are n.zone rrsets.items [] parts (λ e. tt)
  case_says labels case.NoEncloser parts lines =
      says_missing Q class.Lacking (said.Source why.EncloserMissing n (name.At labels) ∷ said.Source why.MatchMissing n (name.At labels) ∷
      [])
      (lines _ (inl refl), (lines _ (inr refl), tt))
  case_says labels (case.Encloser e) parts lines =
      let next = next_remedy levels labels n e in
      let below = wildcard_remedy levels n e.name e.wildcard in
      says_both Q (shown_remedy levels n e.shown.items) (both next below)
      (shown_case e.shown.items (is_none e.shown.items) (λ r t among. parts r t (inl among)))
      (says_both Q next below (next_says labels e (λ r t among. parts r t (inr (inl among))) lines)
      (wildcard_says e.name e.wildcard (λ r t one. parts r t (inr (inr one))) (λ line of. lines line (inr of))))

  -- ---- an unsigned delegation

  pub cut_says : (c : ℕ) (x : CutCase) (m : Remedied) → cut_remedy levels n c x ≡ Some m
      → ((r : RrsetFacts) (t : Told) → IsOneOfCut x r → IsOfPart zones n.zone r t → Q (said.Trust t))
      → ((line : Said) → IsOfCut n c x line → Q line) → Says Q m
  cut_says c (cut.Delegation rrsets) m is parts lines =
      subst (Says Q) (same_Some (part levels n.zone rrsets.items []) m is)
      (part_says Q zones levels are n.zone rrsets.items [] parts (λ e. tt))
  cut_says c cut.NoCut m is parts lines = absurd (none_some m is)
  cut_says c (cut.Signed s) m is parts lines =
      let line = said.Source (why.TypeHeld s.number s.held) n (name.At c) in
      subst (Says Q) (same_Some (signed_remedy levels n c s) m is)
      (says_both Q (part_of_one levels n.zone s.rrset) (missing class.Lacking (line ∷ []))
      (one_says Q zones levels are n.zone s.rrset (λ t. parts s.rrset t refl))
      (says_missing Q class.Lacking (line ∷ []) (lines line refl, tt)))
  cut_says c (cut.OptOut o) m is parts lines =
      let line = said.Source why.EncloserMissing n (name.At c) in
      subst (Says Q) (same_Some (opt_out_remedy levels n c o) m is)
      (says_both Q (part levels n.zone o.shown.items (line ∷ [])) (part levels n.zone o.covers.items [])
      (part_says Q zones levels are n.zone o.shown.items (line ∷ []) (λ r t among. parts r t (inl among))
      (λ none. (lines line (none, refl), tt)))
      (part_says Q zones levels are n.zone o.covers.items [] (λ r t among. parts r t (inr among)) (λ e. tt)))
  cut_says c cut.Uncovered m is parts lines =
      let line = said.Source (why.CoverMissing role.Cut) n (name.At c) in
      subst (Says Q) (same_Some (missing class.Lacking (line ∷ [])) m is) (says_missing Q class.Lacking (line ∷ []) (lines line refl, tt))
  cut_says c cut.Unmatched m is parts lines =
      let line = said.Source why.MatchMissing n (name.At c) in
      subst (Says Q) (same_Some (missing class.Lacking (line ∷ [])) m is) (says_missing Q class.Lacking (line ∷ []) (lines line refl, tt))

-- ---- a source that lacks nothing

part_there : (levels : List Leveled) (zone : ℕ) (rrsets : List RrsetFacts) (lines : List Said)
    → (part levels zone rrsets lines).lacks ≡ false → is_none rrsets ≡ false
part_there levels zone [] lines whole = absurd (false≢true (sym whole))
part_there levels zone (r ∷ rrsets) lines whole = refl

pub neither : (a b : Bool) → (a || b) ≡ false → (a ≡ false) × (b ≡ false)
neither true b e = absurd (false≢true (sym e))
neither false b e = (refl, e)

pub proving : (levels : List Leveled) (n : SourceNumber) (c : ℕ) (x : CutCase) → lacks_nothing (cut_remedy levels n c x) ≡ true
    → IsProvingCase x
proving levels n c (cut.Delegation rrsets) e = part_there levels n.zone rrsets.items [] (off_by_not _ e)
proving levels n c (cut.Signed s) e = absurd (false≢true (sym (neither (part_of_one levels n.zone s.rrset).lacks true (off_by_not _ e)).1))
proving levels n c (cut.OptOut o) e =
    let line = said.Source why.EncloserMissing n (name.At c) in
    let whole = neither (part levels n.zone o.shown.items (line ∷ [])).lacks (part levels n.zone o.covers.items []).lacks (off_by_not _ e)
    in
    (part_there levels n.zone o.shown.items (line ∷ []) whole.0, part_there levels n.zone o.covers.items [] whole.1)
proving levels n c x e = absurd (false≢true e)
