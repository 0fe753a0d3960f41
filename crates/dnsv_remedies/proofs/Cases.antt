-- What a source of a trusted zone says proves what is asked, or what it lacks fails by itself.
use Rattle.std.proofs.Common.{◌≡◌, ◌⊎◌, inl, inr, ⊎_elim, ℕ, Bool, true, false, if◌then◌else◌, List, [], ◌∷◌, Some, map, refl, subst, slice_get}
use Rattle.std.proofs.lemmas.Option.{same_Some}
use Rattle.dnsv_lines.specs.declared.line.denial.Role.TheVariants as role
use Rattle.dnsv_lines.specs.declared.line.fault.denial.WhySource.TheVariants as why
use Rattle.dnsv_mending.specs.Level.{Leveled}
use Rattle.dnsv_mending.specs.Mend.{is_none}
use Rattle.dnsv_mending.specs.Within.{is_signer_trusted}
use Rattle.dnsv_mending.specs.declared.facts.signature.RrsetFacts.{RrsetFacts}
use Rattle.dnsv_mending.specs.declared.price.Class.TheVariants as class
use Rattle.dnsv_mending.proofs.AllWays.{none_some}
use Rattle.dnsv_remedies.specs.Cuts.{cut_remedy, opt_out_remedy, signed_remedy}
use Rattle.dnsv_remedies.specs.Parts.{part, part_of_one}
use Rattle.dnsv_remedies.specs.Reasons.{AreAtOf, AreOf, IsCaseCut, IsCaseDenial, IsCaseOf, IsCutCaseOf, IsDeniedAt, IsPart, IsWildcardDenied, IsWildcardOf}
use Rattle.dnsv_remedies.specs.Remedy.{Remedied, both, missing, nothing}
use Rattle.dnsv_remedies.specs.Sources.{at_remedy, case_remedy, closed_line, encloser_remedy, held_line, next_remedy, shown_remedy, wildcard_remedy}
use Rattle.dnsv_remedies.specs.declared.facts.cut.CutCase.{CutCase}
use Rattle.dnsv_remedies.specs.declared.facts.cut.CutCase.TheVariants as cut
use Rattle.dnsv_remedies.specs.declared.facts.denial.EncloserFacts.{EncloserFacts}
use Rattle.dnsv_remedies.specs.declared.facts.denial.RecordsAt.{RecordsAt}
use Rattle.dnsv_remedies.specs.declared.facts.denial.RecordsAt.TheVariants as records
use Rattle.dnsv_remedies.specs.declared.facts.denial.SourceCase.{SourceCase}
use Rattle.dnsv_remedies.specs.declared.facts.denial.SourceCase.TheVariants as case
use Rattle.dnsv_remedies.specs.declared.facts.denial.WildcardFacts.{WildcardFacts}
use Rattle.dnsv_remedies.specs.declared.facts.denial.WildcardFacts.TheVariants as wildcard
use Rattle.dnsv_remedies.specs.declared.facts.name.AskedName.{AskedName}
use Rattle.dnsv_remedies.specs.declared.facts.name.AskedName.TheVariants as name
use Rattle.dnsv_remedies.specs.declared.facts.name.SourceNumber.{SourceNumber}
use Rattle.dnsv_remedies.specs.declared.said.Said.TheVariants as said
use Rattle.dnsv_remedies.proofs.Told.{Fails, first_fails, missing_fails, second_fails}
use Rattle.dnsv_remedies.proofs.Within.{part_fails}

-- both are proved, or what has to be mended for both fails
pub both_proved : (P Q : Type 0) (m n : Remedied) → P ⊎ Fails m → Q ⊎ Fails n → (P × Q) ⊎ Fails (both m n)
both_proved P Q m n first second = ⊎_elim
    (λ (p : P). ⊎_elim (λ (q : Q). inl (p, q)) (λ (f : Fails n). inr (second_fails m n f)) second)
    (λ (f : Fails m). inr (first_fails m n f)) first

module _ (levels : List Leveled) (n : SourceNumber) (trusted : is_signer_trusted (slice_get levels n.zone) ≡ true) where
  at_fails : (x : AskedName) (r : RecordsAt) → AreAtOf n.zone r → IsDeniedAt n.zone r ⊎ Fails (at_remedy levels n x r)
  at_fails x (records.Denying rrsets) of = part_fails levels n.zone rrsets.items [] trusted of
  at_fails x (records.Holding h) of = inr (second_fails (part levels n.zone h.rrsets.items []) (missing class.Lacking (map (held_line n x) h.held.items))
      (missing_fails class.Lacking (map (held_line n x) h.held.items)))

  wildcard_fails : (ce : ℕ) (w : WildcardFacts) → IsWildcardOf n.zone w → IsWildcardDenied n.zone w ⊎ Fails (wildcard_remedy levels n ce w)
  wildcard_fails ce wildcard.OptedOut of = inl tt
  wildcard_fails ce (wildcard.At r) of = at_fails (name.Wildcard ce) r of
  wildcard_fails ce (wildcard.Covered rrsets) of =
      part_fails levels n.zone rrsets.items (said.Source (why.CoverMissing role.Wildcard) n (name.Wildcard ce) ∷ []) trusted of

  shown_case : (rrsets : List RrsetFacts) (t : Bool) → is_none rrsets ≡ t → AreOf n.zone rrsets
      → ((is_none rrsets ≡ true) ⊎ IsPart n.zone rrsets) ⊎ Fails (if t then nothing else part levels n.zone rrsets [])
  shown_case rrsets true e of = inl (inl e)
  shown_case rrsets false e of = ⊎_elim (λ (p : IsPart n.zone rrsets). inl (inr p)) (λ (f : Fails (part levels n.zone rrsets [])). inr f)
      (part_fails levels n.zone rrsets [] trusted of)

  encloser_fails : (labels : ℕ) (e : EncloserFacts) → IsCaseOf n.zone (case.Encloser e)
      → IsCaseDenial n.zone (case.Encloser e) ⊎ Fails (encloser_remedy levels labels n e)
  encloser_fails labels e of =
      both_proved ((is_none e.shown.items ≡ true) ⊎ IsPart n.zone e.shown.items) (IsPart n.zone e.covers.items × IsWildcardDenied n.zone e.wildcard)
      (shown_remedy levels n e.shown.items) (both (next_remedy levels labels n e) (wildcard_remedy levels n e.name e.wildcard))
      (shown_case e.shown.items (is_none e.shown.items) refl of.0)
      (both_proved (IsPart n.zone e.covers.items) (IsWildcardDenied n.zone e.wildcard)
      (next_remedy levels labels n e) (wildcard_remedy levels n e.name e.wildcard)
      (part_fails levels n.zone e.covers.items
      (said.Source (why.CoverMissing role.NextCloser) n (name.At e.next) ∷ said.Source why.MatchMissing n (name.At labels) ∷ []) trusted of.1.0)
      (wildcard_fails e.name e.wildcard of.1.1))

  pub case_fails : (labels : ℕ) (c : SourceCase) → IsCaseOf n.zone c → IsCaseDenial n.zone c ⊎ Fails (case_remedy levels labels n c)
  case_fails labels (case.Closed c) of = inr (second_fails (part_of_one levels n.zone c.rrset) (missing class.Missing (closed_line n c ∷ []))
      (missing_fails class.Missing (closed_line n c ∷ [])))
  case_fails labels (case.At r) of = at_fails (name.At labels) r of
  case_fails labels case.Apex of = inr (missing_fails class.Lacking (said.Source why.MatchMissing n (name.At labels) ∷ []))
  case_fails labels (case.NonTerminal rrsets) of = part_fails levels n.zone rrsets.items [] trusted of
  case_fails labels case.NoEncloser of = inr (missing_fails class.Lacking
      (said.Source why.EncloserMissing n (name.At labels) ∷ said.Source why.MatchMissing n (name.At labels) ∷ []))
  case_fails labels (case.Encloser e) of = encloser_fails labels e of

  -- the same of an unsigned delegation, where the source doesn't say that there is none
  pub cut_fails : (c : ℕ) (x : CutCase) (m : Remedied) → cut_remedy levels n c x ≡ Some m → IsCutCaseOf n.zone x → IsCaseCut n.zone x ⊎ Fails m
  cut_fails c (cut.Delegation rrsets) m is of =
      subst (λ y. IsPart n.zone rrsets.items ⊎ Fails y) (same_Some (part levels n.zone rrsets.items []) m is) (part_fails levels n.zone rrsets.items [] trusted of)
  cut_fails c cut.NoCut m is of = absurd (none_some m is)
  cut_fails c (cut.Signed s) m is of =
      let lines = said.Source (why.TypeHeld s.number s.held) n (name.At c) ∷ [] in
      inr (subst Fails (same_Some (signed_remedy levels n c s) m is)
      (second_fails (part_of_one levels n.zone s.rrset) (missing class.Lacking lines) (missing_fails class.Lacking lines)))
  cut_fails c (cut.OptOut o) m is of =
      let lines = said.Source why.EncloserMissing n (name.At c) ∷ [] in
      subst (λ y. IsCaseCut n.zone (cut.OptOut o) ⊎ Fails y) (same_Some (opt_out_remedy levels n c o) m is)
      (both_proved (IsPart n.zone o.shown.items) (IsPart n.zone o.covers.items)
      (part levels n.zone o.shown.items lines) (part levels n.zone o.covers.items [])
      (part_fails levels n.zone o.shown.items lines trusted of.0) (part_fails levels n.zone o.covers.items [] trusted of.1))
  cut_fails c cut.Uncovered m is of =
      let lines = said.Source (why.CoverMissing role.Cut) n (name.At c) ∷ [] in
      inr (subst Fails (same_Some (missing class.Lacking lines) m is) (missing_fails class.Lacking lines))
  cut_fails c cut.Unmatched m is of =
      let lines = said.Source why.MatchMissing n (name.At c) ∷ [] in
      inr (subst Fails (same_Some (missing class.Lacking lines) m is) (missing_fails class.Lacking lines))
