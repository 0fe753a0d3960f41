-- What a source says of a name that may be an unsigned delegation is one.
use Rattle.std.proofs.Common.{◌≡◌, ◌∙◌, ◌⊎◌, inl, inr, ℕ, sym, subst}
use Rattle.dnsv_names.specs.Name.{Labels}
use Rattle.dnsv_names.specs.declared.number.RecordType.{RecordType}
use Rattle.dnsv_zones.specs.forms.RecordWords.{RecordWords}
use Rattle.dnsv_zones.specs.zones.TypeNumbers.{ds, ns, soa}
use Rattle.dnsv_zones.specs.zones.Types.{IsUnsignedDelegation}
use Rattle.dnsv_canonical.specs.declared.number.RecordNumber.{RecordNumber}
use Rattle.dnsv_faults.specs.Rrsets.{AreRrsetFacts}
use Rattle.dnsv_remedies.specs.declared.facts.cut.CutCase.{CutCase}
use Rattle.dnsv_remedies.specs.declared.facts.cut.CutCase.TheVariants as case
use Rattle.dnsv_remedies.specs.declared.facts.cut.SignedCutFacts.{SignedCutFacts}
use Rattle.dnsv_chain.specs.Basis.{Basis}
use Rattle.dnsv_gaps.specs.Cases.{IsAt}
use Rattle.dnsv_gaps.specs.questions.Cuts.{IsCutCase, IsHeldInstead, IsLowestAt, IsUnsignedAt}
use Rattle.dnsv_remedy_laws.specs.AlikeQuestions.{AreAlikeCutCases, AreAlikeSignedCuts}
use Rattle.dnsv_remedy_laws.specs.AlikeQuestions.AreAlikeCutCases.{delegation, no_cut, signed, opt_out, uncovered, unmatched}
use Rattle.dnsv_reasons.proofs.lemmas.facts.RrsetLemmas.{one_rrset_facts}
use Rattle.dnsv_reasons.proofs.lemmas.questions.HeldLemmas.{one_first}
use Rattle.dnsv_reasons.proofs.lemmas.questions.PartLemmas.{one_part}
use Rattle.dnsv_reasons.proofs.lemmas.questions.SourceLemmas.{AreAtTheirNames, HasOneTypes}

-- what a record has in place of an unsigned delegation
held_instead : (has : ℕ → Type 0) (a b : RecordType) → (has ds × (a.0 ≡ ds)) ⊎ ((¬ has ds) × has soa × (a.0 ≡ soa))
    → (has ds × (b.0 ≡ ds)) ⊎ ((¬ has ds) × has soa × (b.0 ≡ soa)) → a ≡ b
held_instead has a b (inl x) (inl y) = let same : a.0 ≡ b.0 = x.1 ∙ sym y.1 in λ i. record { 0 = same i }
held_instead has a b (inl x) (inr y) = absurd (y.0 x.0)
held_instead has a b (inr x) (inl y) = absurd (x.0 y.0)
held_instead has a b (inr x) (inr y) = let same : a.0 ≡ b.0 = x.2 ∙ sym y.2 in λ i. record { 0 = same i }

module _
    (basis : Basis) (said : RecordWords RecordNumber) (types : HasOneTypes said) (theirs : AreAtTheirNames said) (HasOptOut : Type 0)
    (parent cut : Labels) where
  -- it has NS or not
  no_both : (held : RecordType) (m n : RecordNumber) → IsLowestAt said cut (λ has. ¬ has ns) m
      → IsLowestAt said cut (λ has. IsHeldInstead has held) n → ⊥
  no_both held m n x y =
      let same : m ≡ n = one_first (IsAt said cut) m n x.0 y.0 in
      let Without : RecordNumber → Type 0 = λ each. said.TypesAt cut (λ has. ¬ has ns) each in
      types ⊥ (λ has. ¬ has ns) (λ has. IsHeldInstead has held) (λ has p q. p q.0) cut n (subst Without same x.1) y.1

  one_signed : (a b : SignedCutFacts) → IsLowestAt said cut (λ has. IsHeldInstead has a.held) a.number
      → IsLowestAt said cut (λ has. IsHeldInstead has b.held) b.number → AreRrsetFacts basis a.number.rrset a.rrset
      → AreRrsetFacts basis b.number.rrset b.rrset → AreAlikeSignedCuts a b
  one_signed a b x y p q =
      let same : a.number ≡ b.number = one_first (IsAt said cut) a.number b.number x.0 y.0 in
      let Held : RecordNumber → Type 0 = λ each. said.TypesAt cut (λ has. IsHeldInstead has a.held) each in
      let Facts : RecordNumber → Type 0 = λ each. AreRrsetFacts basis each.rrset a.rrset in
      record {
        number = same;
        held = types (a.held ≡ b.held) (λ has. IsHeldInstead has a.held) (λ has. IsHeldInstead has b.held)
            (λ has c d. held_instead has a.held b.held c.1 d.1) cut b.number (subst Held same x.1) y.1;
        rrset = one_rrset_facts basis b.number.rrset a.rrset b.rrset (subst Facts same p) q;
      }

  unsigned_there : (number : RecordNumber) → IsUnsignedAt said cut number → IsAt said cut number
  unsigned_there number is = theirs IsUnsignedDelegation cut number is

  pub one_cut_case : (a b : CutCase) → IsCutCase basis said HasOptOut parent cut a → IsCutCase basis said HasOptOut parent cut b
      → AreAlikeCutCases a b
  one_cut_case (case.Delegation a) (case.Delegation b) x y =
      delegation a b (one_part basis (IsUnsignedAt said cut) a.items b.items x.1 y.1)
  one_cut_case (case.Delegation a) case.NoCut x y = absurd (y.0 x.0.0 x.0.1)
  one_cut_case (case.Delegation a) (case.Signed b) x y = absurd (y.0 x.0.0 x.0.1)
  one_cut_case case.NoCut (case.Delegation b) x y = absurd (x.0 y.0.0 y.0.1)
  one_cut_case case.NoCut case.NoCut x y = no_cut
  one_cut_case case.NoCut (case.Signed b) x y = absurd (no_both b.held x.1.0 b.number x.1.1 y.1)
  one_cut_case (case.Signed a) (case.Delegation b) x y = absurd (x.0 y.0.0 y.0.1)
  one_cut_case (case.Signed a) case.NoCut x y = absurd (no_both a.held y.1.0 a.number y.1.1 x.1)
  one_cut_case (case.Signed a) (case.Signed b) x y = signed a b (one_signed a b x.1 y.1 x.2 y.2)
  one_cut_case (case.OptOut a) (case.OptOut b) x y = opt_out a b (record {
    shown = one_part basis (said.Encloser parent) a.shown.items b.shown.items x.2 y.2;
    covers = one_part basis (said.OptedOut cut) a.covers.items b.covers.items x.3 y.3;
  })
  one_cut_case case.Uncovered case.Uncovered x y = uncovered
  one_cut_case case.Uncovered case.Unmatched x y = absurd (y.2 x.2)
  one_cut_case a (case.Delegation b) x y = absurd (x.0 y.0.0 (unsigned_there y.0.0 y.0.1))
  one_cut_case a case.NoCut x y = absurd (x.0 y.1.0 y.1.1.0.says)
  one_cut_case a (case.Signed b) x y = absurd (x.0 b.number y.1.0.says)
  one_cut_case (case.Signed a) b x y = absurd (y.0 a.number x.1.0.says)
  one_cut_case case.NoCut b x y = absurd (y.0 x.1.0 x.1.1.0.says)
  one_cut_case (case.Delegation a) b x y = absurd (y.0 x.0.0 (unsigned_there x.0.0 x.0.1))
  one_cut_case a (case.OptOut b) x y = absurd (x.1 y.1.0 y.1.1)
  one_cut_case (case.OptOut a) b x y = absurd (y.1 x.1.0 x.1.1)
  one_cut_case case.Unmatched case.Uncovered x y = absurd (x.2 y.2)
  one_cut_case case.Unmatched case.Unmatched x y = unmatched
