-- What is so of the names below a zone that may be unsigned delegations is one.
use Rattle.std.proofs.Common.{◌≡◌, ◌∙◌, ◌+◌, ◌-◌, ℕ, List, Option, Some, None, refl, sym, ap, subst}
use Rattle.std.specs.List.{AllZip, enumerate_from, range_with_len}
use Rattle.dnsv_names.specs.Name.{Labels, rightmost}
use Rattle.dnsv_denial.specs.gathering.EvidenceWords.{Chain}
use Rattle.dnsv_remedies.specs.declared.facts.cut.CutFacts.{CutFacts}
use Rattle.dnsv_remedies.specs.declared.facts.cut.CutSource.{CutSource}
use Rattle.dnsv_remedies.specs.declared.facts.cut.ParentFacts.{ParentFacts}
use Rattle.dnsv_gaps.specs.Asking.{Asking}
use Rattle.dnsv_gaps.specs.Sources.{source_said}
use Rattle.dnsv_gaps.specs.Unusable.{AreUnusable}
use Rattle.dnsv_gaps.specs.questions.Cuts.{AreCutFacts, AreCutsBelow, AreParentFacts, AreParents, HasOptOut, IsCutSource, IsNext, IsParent, IsShown, lowest_cut}
use Rattle.dnsv_remedy_laws.specs.AlikeQuestions.{AreAlikeCuts, AreAlikeCutSources, AreAlikeParents}
use Rattle.dnsv_reasons.proofs.lemmas.facts.ListLemmas.{alike_zip, one_test}
use Rattle.dnsv_reasons.proofs.lemmas.questions.CutCaseLemmas.{one_cut_case}
use Rattle.dnsv_reasons.proofs.lemmas.questions.ListLemmas.{level, one_of_numbers}
use Rattle.dnsv_reasons.proofs.lemmas.questions.SourceLemmas.{at_its_name, one_sources, one_types, one_unusable}

module _ (a : Asking) where
  one_next : (n : ℕ) (c d : Option ℕ) → IsNext a n c → IsNext a n d → c ≡ d
  one_next n None None x y = refl
  one_next n None (Some d) x y = absurd (x d y.below y.within y.known)
  one_next n (Some c) None x y = absurd (y c x.below x.within x.known)
  one_next n (Some c) (Some d) x y =
      let same : c ≡ d = level c d (λ less. y.fewest c x.below less x.known) (λ less. x.fewest d y.below less y.known) in
      ap (λ (k : ℕ). Some k) same

  one_cut_source : (zone : Labels) (k : ℕ) (placed : ℕ × Chain) (c d : CutSource) → IsCutSource a zone k placed c
      → IsCutSource a zone k placed d → AreAlikeCutSources c d
  one_cut_source zone k placed c d x y = record {
    place = x.place ∙ sym y.place;
    its_case = one_cut_case a.basis (source_said a zone placed.1) (one_types a zone placed.1) (at_its_name a zone placed.1)
        (HasOptOut a zone placed.1) (rightmost a.name (k - 1)) (rightmost a.name k) c.case d.case x.its_case y.its_case;
  }

  one_cut : (n : ℕ) (next : Option ℕ) (chains : List Chain) (k : ℕ) (c d : CutFacts) → AreCutFacts a n next chains k c
      → AreCutFacts a n next chains k d → AreAlikeCuts c d
  one_cut n next chains k c d x y = record {
    name = x.name ∙ sym y.name;
    is_shown = one_test (IsShown a n next k) c.is_shown d.is_shown x.is_shown y.is_shown;
    sources = alike_zip (IsCutSource a (rightmost a.name n) k) AreAlikeCutSources (one_cut_source (rightmost a.name n) k)
        (enumerate_from 0 chains) c.sources.items d.sources.items x.sources y.sources;
  }

  one_cuts : (n : ℕ) (c d : List CutFacts) → AreCutsBelow a n c → AreCutsBelow a n d → AllZip AreAlikeCuts c d
  one_cuts n c d x y =
      let next : x.next ≡ y.next = one_next n x.next y.next x.next_is y.next_is in
      let chains : x.chains ≡ y.chains = one_sources a (rightmost a.name n) x.chains y.chains x.are_sources y.are_sources in
      let names : List ℕ = range_with_len (n + 1) (lowest_cut a - n) in
      let Each : Option ℕ → List Chain → Type 0 = λ u v. AllZip (AreCutFacts a n u v) names c in
      let each : Each y.next y.chains =
      subst (λ (v : List Chain). Each y.next v) chains (subst (λ (u : Option ℕ). Each u x.chains) next x.each) in
      alike_zip (AreCutFacts a n y.next y.chains) AreAlikeCuts (one_cut n y.next y.chains) names c d each y.each

  one_parent : (c d : ParentFacts) → c.labels ≡ d.labels → AreParentFacts a c → AreParentFacts a d → AreAlikeParents c d
  one_parent c d same x y =
      let Cuts : ℕ → Type 0 = λ n. AreCutsBelow a n c.cuts.items in
      let Unusable : ℕ → Type 0 = λ n. AreUnusable a (rightmost a.name n) c.unusable.items in
      record {
        labels = same;
        cuts = one_cuts d.labels c.cuts.items d.cuts.items (subst Cuts same x.cuts) y.cuts;
        unusable = one_unusable a (rightmost a.name d.labels) c.unusable.items d.unusable.items (subst Unusable same x.unusable) y.unusable;
      }

  pub one_parents : (c d : List ParentFacts) → AreParents a c → AreParents a d → AllZip AreAlikeParents c d
  one_parents c d x y =
      one_of_numbers (λ (parent : ParentFacts). parent.labels) (IsParent a) (AreParentFacts a) AreAlikeParents one_parent c d x y
