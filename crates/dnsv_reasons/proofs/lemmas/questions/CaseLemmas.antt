-- What a source says of a question is one.
use Rattle.std.proofs.Common.{◌≡◌, ◌∙◌, ◌+◌, ◌↔◌, ℕ, IsTrue, List, [], ◌∷◌, sym, ap, subst}
use Rattle.std.specs.List.{AllZip}
use Rattle.dnsv_names.specs.Name.{Labels, rightmost}
use Rattle.dnsv_names.specs.Tree.{wildcard_of}
use Rattle.dnsv_zones.specs.forms.RecordWords.{RecordWords}
use Rattle.dnsv_zones.specs.zones.TypeNumbers.{dname}
use Rattle.dnsv_canonical.specs.declared.number.RecordNumber.{RecordNumber}
use Rattle.dnsv_mending.specs.declared.facts.signature.RrsetFacts.{RrsetFacts}
use Rattle.dnsv_remedies.specs.declared.facts.denial.ClosedFacts.{ClosedFacts}
use Rattle.dnsv_remedies.specs.declared.facts.denial.EncloserFacts.{EncloserFacts}
use Rattle.dnsv_remedies.specs.declared.facts.denial.SourceCase.{SourceCase}
use Rattle.dnsv_remedies.specs.declared.facts.denial.SourceCase.TheVariants as case
use Rattle.dnsv_chain.specs.Basis.{Basis}
use Rattle.dnsv_gaps.specs.Cases.{AreClosedFacts, AreEncloserFacts, AreShowing, AreWildcardFacts, IsBestCover, IsFirstClosed, IsSourceCase}
use Rattle.dnsv_gaps.specs.Cases.AreShowing.{needless, by_records}
use Rattle.dnsv_gaps.specs.Parts.{AreFactsOf}
use Rattle.dnsv_remedy_laws.specs.AlikeQuestions.{AreAlikeCases, AreAlikeClosed, AreAlikeEnclosers}
use Rattle.dnsv_remedy_laws.specs.AlikeQuestions.AreAlikeCases.{closed, at, apex, non_terminal, no_encloser, encloser}
use Rattle.dnsv_remedy_laws.specs.AlikeZones.{AreAlikeRrsets}
use Rattle.dnsv_reasons.proofs.lemmas.facts.ListLemmas.{one_test}
use Rattle.dnsv_reasons.proofs.lemmas.questions.HeldLemmas.{one_records, one_wildcard, same_number}
use Rattle.dnsv_reasons.proofs.lemmas.questions.ListLemmas.{level}
use Rattle.dnsv_reasons.proofs.lemmas.questions.PartLemmas.{one_part}
use Rattle.dnsv_reasons.proofs.lemmas.questions.SourceLemmas.{HasOneTypes}

module _ (basis : Basis) (said : RecordWords RecordNumber) (types : HasOneTypes said) (zone name : Labels) (t : ℕ) where
  one_closed : (a b : ClosedFacts) → AreClosedFacts basis said zone name a → AreClosedFacts basis said zone name b → AreAlikeClosed a b
  one_closed a b x y =
      let names : a.name ≡ b.name =
      level a.name b.name (λ less. y.first.fewest a.name less x.first.closed) (λ less. x.first.fewest b.name less y.first.closed) in
      let First : ℕ → Type 0 = λ k. IsFirstClosed said zone name k a.number in
      let first : First b.name = subst First names x.first in
      let numbers : a.number ≡ b.number =
      same_number a.number b.number (y.first.lowest a.number first.is) (first.lowest b.number y.first.is) in
      let Test : ℕ → RecordNumber → Type 0 =
      λ k number. IsTrue a.is_dname ↔ said.TypesAt (rightmost name k) (λ has. has dname) number in
      let test : Test b.name b.number =
      subst (λ (number : RecordNumber). Test b.name number) numbers (subst (λ (k : ℕ). Test k a.number) names x.by_dname) in
      let Of : RecordNumber → Type 0 = λ number. AreFactsOf basis (λ each. each ≡ number) (a.rrset ∷ []) in
      let rrsets : AllZip AreAlikeRrsets (a.rrset ∷ []) (b.rrset ∷ []) =
      one_part basis (λ each. each ≡ b.number) (a.rrset ∷ []) (b.rrset ∷ []) (subst Of numbers x.rrset) y.rrset in
      record {
        name = names;
        number = numbers;
        is_dname = one_test (said.TypesAt (rightmost name b.name) (λ has. has dname) b.number) a.is_dname b.is_dname test y.by_dname;
        rrset = rrsets.0;
      }

  one_showing : (above : Labels) (a b : List RrsetFacts) → AreShowing basis said above a → AreShowing basis said above b
      → AllZip AreAlikeRrsets a b
  one_showing above a b (needless x) (needless y) = tt
  one_showing above a b (needless x) (by_records never y) = absurd (never x)
  one_showing above a b (by_records never x) (needless y) = absurd (never y)
  one_showing above a b (by_records never x) (by_records nor y) = one_part basis (said.Encloser above) a b x y

  one_encloser : (a b : EncloserFacts) → AreEncloserFacts basis said zone name t a → AreEncloserFacts basis said zone name t b
      → AreAlikeEnclosers a b
  one_encloser a b x y =
      let names : a.name ≡ b.name =
      level a.name b.name (λ less. x.longest.most b.name less y.longest.above y.longest.shown)
      (λ less. y.longest.most a.name less x.longest.above x.longest.shown) in
      let nexts : a.next ≡ b.next = x.next ∙ ap (λ (k : ℕ). k + 1) names ∙ sym y.next in
      let Showing : ℕ → Type 0 = λ k. AreShowing basis said (rightmost name k) a.shown.items in
      let Covers : ℕ → Type 0 = λ k. AreFactsOf basis (IsBestCover said (rightmost name k)) a.covers.items in
      let Wild : ℕ → ℕ → Type 0 = λ next k.
      AreWildcardFacts basis said (rightmost name next) (wildcard_of (rightmost name k)) t a.wildcard in
      let wild : Wild b.next b.name =
      subst (λ (k : ℕ). Wild b.next k) names (subst (λ (next : ℕ). Wild next a.name) nexts x.wildcard) in
      record {
        name = names;
        next = nexts;
        shown = one_showing (rightmost name b.name) a.shown.items b.shown.items (subst Showing names x.shown) y.shown;
        covers = one_part basis (IsBestCover said (rightmost name b.next)) a.covers.items b.covers.items (subst Covers nexts x.covers) y.covers;
        wildcard = one_wildcard basis said types t (rightmost name b.next) (wildcard_of (rightmost name b.name)) a.wildcard b.wildcard
            wild y.wildcard;
      }

  pub one_case : (a b : SourceCase) → IsSourceCase basis said zone name t a → IsSourceCase basis said zone name t b → AreAlikeCases a b
  one_case (case.Closed a) (case.Closed b) x y = closed a b (one_closed a b x y)
  one_case (case.Closed a) case.NoEncloser x y = absurd (y.0.open_above a.name x.first.closed)
  one_case (case.Closed a) (case.Encloser b) x y = absurd (y.0.open_above a.name x.first.closed)
  one_case (case.At a) (case.At b) x y = at a b (one_records basis said types t name a b x.2 y.2)
  one_case (case.At a) case.Apex x y = absurd (y.1 x.1.0 x.1.1)
  one_case (case.At a) (case.NonTerminal b) x y = absurd (y.1 x.1.0 x.1.1)
  one_case case.Apex case.Apex x y = apex
  one_case case.Apex (case.NonTerminal b) x y = absurd (y.2 x.2)
  one_case (case.NonTerminal a) case.Apex x y = absurd (x.2 y.2)
  one_case (case.NonTerminal a) (case.NonTerminal b) x y =
      non_terminal a b (one_part basis (said.EmptyNonTerminal name) a.items b.items x.4 y.4)
  one_case case.NoEncloser (case.Closed b) x y = absurd (x.0.open_above b.name y.first.closed)
  one_case case.NoEncloser (case.At b) x y = absurd (x.0.unmatched y.1.0 y.1.1)
  one_case case.NoEncloser case.NoEncloser x y = no_encloser
  one_case case.NoEncloser (case.Encloser b) x y =
      absurd (x.1 b.name y.1.longest.above y.1.longest.within y.1.longest.shown)
  one_case (case.Encloser a) (case.Closed b) x y = absurd (x.0.open_above b.name y.first.closed)
  one_case a (case.Closed b) x y = absurd (x.0 b.name y.first.closed)
  one_case (case.Closed a) b x y = absurd (y.0 a.name x.first.closed)
  one_case (case.Encloser a) (case.At b) x y = absurd (x.0.unmatched y.1.0 y.1.1)
  one_case a (case.At b) x y = absurd (x.1 y.1.0 y.1.1)
  one_case a case.Apex x y = absurd (x.0.below y.2)
  one_case a (case.NonTerminal b) x y = absurd (x.0.not_empty y.3.0 y.3.1)
  one_case (case.NonTerminal a) b x y = absurd (y.0.not_empty x.3.0 x.3.1)
  one_case case.Apex b x y = absurd (y.0.below x.2)
  one_case (case.At a) b x y = absurd (y.0.unmatched x.1.0 x.1.1)
  one_case (case.Encloser a) case.NoEncloser x y =
      absurd (y.1 a.name x.1.longest.above x.1.longest.within x.1.longest.shown)
  one_case (case.Encloser a) (case.Encloser b) x y = encloser a b (one_encloser a b x.1 y.1)
