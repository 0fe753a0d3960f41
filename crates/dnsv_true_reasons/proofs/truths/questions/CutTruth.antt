-- What is told of names that may be unsigned delegations is so.
use Rattle.std.proofs.Common.{◌≡◌, ◌⊎◌, ◌+◌, ◌-◌, ◌<◌, ◌≤◌, ◌==◌, ℕ, zero, suc, Bool, true, false, if◌then◌else◌, inl, inr, List, [], ◌∷◌, length, refl, sym, ap, ◌∙◌, subst, arith}
use Rattle.std.proofs.lemmas.Bool.{eq-eqb, false≢true}
use Rattle.std.specs.List.{range_with_len}
use Rattle.std.specs.Prelude.{Contains}
use Rattle.dnsv_names.specs.Name.{Labels, rightmost}
use Rattle.dnsv_names.specs.Tree.AncestorLaws.{rightmost_above, rightmost_below, rightmost_in_line, rightmost_length, rightmost_rightmost}
use Rattle.dnsv_names.specs.Tree.TreeLaws.{below_by_length}
use Rattle.dnsv_names.specs.declared.number.RecordType.{RecordType}
use Rattle.dnsv_zones.specs.chains.NsecChain.{IsInBitmap}
use Rattle.dnsv_zones.specs.zones.TypeNumbers.{ds, soa}
use Rattle.dnsv_canonical.specs.declared.number.RecordNumber.{RecordNumber}
use Rattle.dnsv_denial.specs.gathering.EvidenceWords.{Chain}
use Rattle.dnsv_gaps.specs.Asking.{Asking}
use Rattle.dnsv_gaps.specs.Cases.{HasOne}
use Rattle.dnsv_gaps.specs.Parts.{AreFactsOf}
use Rattle.dnsv_gaps.specs.Sources.{source_said}
use Rattle.dnsv_gaps.specs.questions.Cuts.{HasOptOut, IsCutCase, IsHeldInstead, lowest_cut}
use Rattle.dnsv_lines.specs.declared.line.Line.{Line}
use Rattle.dnsv_lines.specs.declared.line.denial.Role.TheVariants as role
use Rattle.dnsv_lines.specs.declared.line.fault.denial.WhySource.{WhySource}
use Rattle.dnsv_lines.specs.declared.line.fault.denial.WhySource.TheVariants as why
use Rattle.dnsv_mending.specs.Mend.{is_none}
use Rattle.dnsv_mending.specs.declared.facts.signature.RrsetFacts.{RrsetFacts}
use Rattle.dnsv_reasons.specs.Lines.{IsSaidLine}
use Rattle.dnsv_remedies.specs.declared.facts.cut.CutCase.{CutCase}
use Rattle.dnsv_remedies.specs.declared.facts.cut.CutCase.TheVariants as cut
use Rattle.dnsv_remedies.specs.declared.facts.name.AskedName.TheVariants as name
use Rattle.dnsv_remedies.specs.declared.facts.name.SourceNumber.{SourceNumber}
use Rattle.dnsv_remedies.specs.declared.said.Said.{Said}
use Rattle.dnsv_remedies.specs.declared.said.Said.TheVariants as said
use Rattle.dnsv_chain.specs.Basis.{Basis}
use Rattle.dnsv_true_reasons.specs.truth.Question.{IsProvingCut}
use Rattle.dnsv_true_reasons.specs.truth.Reasons.{IsReasonTrue}
use Rattle.dnsv_true_reasons.specs.truth.Sources.{HasNoneOpenAt, IsCutName, IsSourceTrue}
use Rattle.dnsv_true_reasons.proofs.truths.questions.FactsThere.{contains_map}
use Rattle.dnsv_true_reasons.proofs.truths.LineTruth.{IsLineTrue}
use Rattle.dnsv_true_reasons.proofs.truths.ways.SaidOf.{IsOfCut, IsProvingCase}
use Rattle.dnsv_true_reasons.proofs.truths.questions.SourceTruth.{IsChainAt, source_line}
use Rattle.dnsv_true_reasons.proofs.truths.questions.TypedTruth.{none_open, none_such, typed_any, typed_to}

-- ---- names

-- what a range has
pub range_has : (from count x : ℕ) → Contains (range_with_len from count) x → (from ≤ x) × (x < from + count)
range_has from zero x (i, within, is) = absurd (omega (arith, within))
range_has from (suc count) x (zero, within, is) = let same : from ≡ x = is in (omega (arith, same), omega (arith, same))
range_has from (suc count) x (suc i, within, is) =
    let rest = range_has (from + 1) count x (i, omega (arith, within), is) in
    let low = rest.0 in let high = rest.1 in (omega (arith, low), omega (arith, high))

-- the lowest name that may be one
pub lowest_below : (a : Asking) → (lowest_cut a ≤ length a.name) × (a.rtype ≡ ds → lowest_cut a ≡ length a.name - 1)
lowest_below a = by (a.rtype == ds) refl
  where
    by : (b : Bool) → (a.rtype == ds) ≡ b → ((if b then length a.name - 1 else length a.name) ≤ length a.name)
        × (a.rtype ≡ ds → (if b then length a.name - 1 else length a.name) ≡ length a.name - 1)
    by true e = (omega arith, λ is. refl)
    by false e = (omega arith, λ is. absurd (false≢true (sym e ∙ eq-eqb a.rtype ds is)))

-- a name with so many labels between the zone and that
pub cut_name : (a : Asking) (n c : ℕ) → n ≤ length a.name → n < c → c ≤ lowest_cut a → IsCutName a (rightmost a.name n) (rightmost a.name c)
cut_name a n c within under lowest =
    let low = lowest_below a in
    let most = low.0 in
    let count = rightmost_length a.name c (omega (arith, lowest, most)) in
    let zone = rightmost_length a.name n within in
    record {
      above = rightmost_above a.name c;
      properly = λ is. let last = low.1 is in rightmost_below a.name c (omega (arith, lowest, last, under));
      below = below_by_length (rightmost a.name c) (rightmost a.name n) (rightmost_in_line a.name c n (omega (arith, under)))
          (omega (arith, count, zone, under));
    }

some_such : (basis : Basis) (Such : RecordNumber → Type 0) (rrsets : List RrsetFacts) → AreFactsOf basis Such rrsets
    → is_none rrsets ≡ false → HasOne Such
some_such basis Such [] are some = absurd (false≢true (sym some))
some_such basis Such (r ∷ rrsets) are some =
    let has = (are.members r.number).0 (contains_map (λ (each : RrsetFacts). each.number) (r ∷ rrsets) r (inl refl)) in (has.0, has.2)

module _ (a : Asking) (n : SourceNumber) (chain : Chain) (at : IsChainAt a n chain) (c : ℕ)
    (name_is : IsCutName a (rightmost a.name n.zone) (rightmost a.name c))
    (within : c ≤ length a.name) where
  told_is : (w : WhySource) (s : Said) → s ≡ said.Source w n (name.At c)
      → IsSourceTrue a (source_said a (rightmost a.name n.zone) chain) (rightmost a.name n.zone) (rightmost a.name c) w
      → (l : Line) → IsSaidLine a s l → IsLineTrue (IsReasonTrue a) l
  told_is w s same truth l of =
      source_line a n (name.At c) w (record {
        chain = chain;
        is = at;
        truth = λ y above. subst (λ (z : Labels). IsSourceTrue a (source_said a (rightmost a.name n.zone) chain) (rightmost a.name n.zone)
            z w) (sym above.is) truth;
      }) l (subst (λ (each : Said). IsSaidLine a each l) same of)

  -- the parent of the name
  parent_is : rightmost (rightmost a.name c) (length (rightmost a.name c) - 1) ≡ rightmost a.name (c - 1)
  parent_is =
      let count = rightmost_length a.name c within in
      ap (λ m. rightmost (rightmost a.name c) (m - 1)) count ∙ rightmost_rightmost a.name c (c - 1) (omega arith)

  held_type : (has : ℕ → Type 0) (held : RecordType) → IsHeldInstead has held → (held.0 ≡ ds) ⊎ (held.0 ≡ soa)
  held_type has held (on, inl is) = inl is.1
  held_type has held (on, inr is) = inr is.2

  held_is : (has : ℕ → Type 0) (held : RecordType) → IsHeldInstead has held → has held.0
  held_is has held (on, inl is) = subst has (sym is.1) is.0
  held_is has held (on, inr is) = subst has (sym is.2) is.1

  pub cut_true : (x : CutCase)
      → IsCutCase a.basis (source_said a (rightmost a.name n.zone) chain) (HasOptOut a (rightmost a.name n.zone) chain)
      (rightmost a.name (c - 1)) (rightmost a.name c) x
      → (s : Said) → IsOfCut n c x s → (l : Line) → IsSaidLine a s l → IsLineTrue (IsReasonTrue a) l
  cut_true (cut.Signed signed) are s told l of =
      let zone = rightmost a.name n.zone in
      let lowest = are.1 in
      let some = typed_any a zone chain (rightmost a.name c) (λ has. IsHeldInstead has signed.held) signed.number lowest.1 in
      told_is (why.TypeHeld signed.number signed.held) s told (
        typed_to a zone chain (rightmost a.name c) (λ has. IsHeldInstead has signed.held) (λ has. has signed.held.0) signed.number lowest.1
            (λ has held. held_is (IsInBitmap has) signed.held held),
        inr (name_is, held_type (IsInBitmap some.0) signed.held some.1),
      ) l of
  cut_true (cut.OptOut o) are s told l of =
      let zone = rightmost a.name n.zone in
      told_is why.EncloserMissing s told.1 (inr (
        name_is,
        subst (HasNoneOpenAt (source_said a zone chain)) (sym parent_is)
            (none_open a zone chain (rightmost a.name (c - 1))
            (none_such a.basis ((source_said a zone chain).Encloser (rightmost a.name (c - 1))) o.shown.items are.2 told.0)),
      )) l of
  cut_true cut.Uncovered are s told l of = told_is (why.CoverMissing role.Cut) s told (are.0, are.1) l of
  cut_true cut.Unmatched are s told l of = told_is why.MatchMissing s told (are.0, inr name_is) l of
  cut_true x are s never l of = absurd never

-- a source that proves it, if its records are signed
pub proving_true : (a : Asking) (zone : Labels) (chain : Chain) (parent x : Labels) (c : CutCase)
    → IsCutCase a.basis (source_said a zone chain) (HasOptOut a zone chain) parent x c → IsProvingCase c → IsProvingCut a zone parent x
proving_true a zone chain parent x (cut.Delegation rrsets) are proves = (chain, inl are.0)
proving_true a zone chain parent x (cut.OptOut o) are proves =
    (chain, inr (some_such a.basis ((source_said a zone chain).Encloser parent) o.shown.items are.2 proves.0, are.1))
proving_true a zone chain parent x c are proves = absurd proves
