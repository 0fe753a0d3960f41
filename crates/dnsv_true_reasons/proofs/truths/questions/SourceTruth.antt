-- What is told of the sources of a zone is so.
use Rattle.std.proofs.Common.{◌≡◌, ◌<◌, ◌≤◌, ℕ, Bool, true, false, if◌then◌else◌, inl, inr, List, Option, Some, None, length, refl, sym, ap, ◌∙◌, subst, slice_get, arith}
use Rattle.dnsv_names.specs.Name.{Labels, IsAtOrBelow, rightmost}
use Rattle.dnsv_names.specs.Order.{IsBelow}
use Rattle.dnsv_names.specs.Tree.{wildcard_of}
use Rattle.dnsv_names.specs.Tree.AncestorLaws.{rightmost_all, rightmost_below}
use Rattle.dnsv_names.specs.declared.number.RecordType.{RecordType}
use Rattle.dnsv_zones.specs.chains.NsecChain.{IsInBitmap}
use Rattle.dnsv_zones.specs.zones.TypeNumbers.{dname}
use Rattle.dnsv_zones.specs.zones.Types.{Denies, IsClosed, IsDelegation}
use Rattle.dnsv_canonical.specs.declared.number.RecordNumber.{RecordNumber}
use Rattle.dnsv_denial.specs.gathering.EvidenceWords.{Chain}
use Rattle.dnsv_zone_faults.proofs.lemmas.zones.ClosedLemmas.{contains_of, not_true}
use Rattle.dnsv_zone_faults.proofs.lemmas.zones.PlaceLemmas.{contains_at}
use Rattle.dnsv_zone_faults.proofs.lemmas.zones.TrustLemmas.{zip_left}
use Rattle.dnsv_gaps.specs.Asking.{Asking}
use Rattle.dnsv_gaps.specs.Cases.{AreClosedFacts, AreRecordsAt, AreWildcardFacts, HasNone, IsAt, IsBestCover, IsDenying, IsHeld, IsHeldAt, IsRuledOut, IsSourceCase, why_held}
use Rattle.dnsv_gaps.specs.Sources.{AreSources, HasRecords, source_said}
use Rattle.dnsv_lines.specs.declared.line.Line.{Line}
use Rattle.dnsv_lines.specs.declared.line.denial.Role.TheVariants as role
use Rattle.dnsv_lines.specs.declared.line.fault.denial.WhySource.{WhySource}
use Rattle.dnsv_lines.specs.declared.line.fault.denial.WhySource.TheVariants as why
use Rattle.dnsv_reasons.specs.Lines.{IsSaidLine}
use Rattle.dnsv_trust_reasons.specs.Places.{IsAbove}
use Rattle.dnsv_reasons.specs.Sources.{IsAskedName, IsParametersOf}
use Rattle.dnsv_remedies.specs.declared.facts.denial.ClosedFacts.{ClosedFacts}
use Rattle.dnsv_remedies.specs.declared.facts.denial.RecordsAt.{RecordsAt}
use Rattle.dnsv_remedies.specs.declared.facts.denial.RecordsAt.TheVariants as records
use Rattle.dnsv_remedies.specs.declared.facts.denial.SourceCase.{SourceCase}
use Rattle.dnsv_remedies.specs.declared.facts.denial.SourceCase.TheVariants as case
use Rattle.dnsv_remedies.specs.declared.facts.denial.WildcardFacts.{WildcardFacts}
use Rattle.dnsv_remedies.specs.declared.facts.denial.WildcardFacts.TheVariants as wildcard
use Rattle.dnsv_remedies.specs.declared.facts.name.AskedName.{AskedName}
use Rattle.dnsv_remedies.specs.declared.facts.name.AskedName.TheVariants as name
use Rattle.dnsv_remedies.specs.declared.facts.name.SourceNumber.{SourceNumber}
use Rattle.dnsv_remedies.specs.declared.said.Said.{Said}
use Rattle.dnsv_remedies.specs.declared.said.Said.TheVariants as said
use Rattle.dnsv_true_reasons.specs.truth.Reasons.{IsReasonTrue}
use Rattle.dnsv_true_reasons.specs.truth.Sources.{IsAskedOf, IsSourceTrue}
use Rattle.dnsv_true_reasons.proofs.truths.LineTruth.{IsLineTrue}
use Rattle.dnsv_reasons.proofs.SourceLemmas.{one_list}
use Rattle.dnsv_true_reasons.proofs.truths.ways.SaidOf.{IsOfCase, IsOfRecordsAt, IsOfWildcard}
use Rattle.dnsv_true_reasons.proofs.truths.questions.TypedTruth.{held_is, held_none, held_type, none_next, none_open, none_such, typed_any, typed_leads, typed_to}

-- ---- a source, as a line names it

-- the chain is the source with the number
pub record IsChainAt (a : Asking) (n : SourceNumber) (chain : Chain) : Type 0 where
  pub within : n.zone ≤ length a.name
  pub chains : List Chain
  pub are : AreSources a (rightmost a.name n.zone) chains
  pub placed : slice_get chains n.place ≡ Some chain

-- the word is true of it and of each name that is told so
pub record IsSourceTold (a : Asking) (n : SourceNumber) (x : AskedName) (w : WhySource) : Type 0 where
  pub chain : Chain
  pub is : IsChainAt a n chain
  pub truth : (name_is : Labels) → IsAskedName a.name x name_is
      → IsSourceTrue a (source_said a (rightmost a.name n.zone) chain) (rightmost a.name n.zone) name_is w

pub source_line : (a : Asking) (n : SourceNumber) (x : AskedName) (w : WhySource) → IsSourceTold a n x w → (l : Line)
    → IsSaidLine a (said.Source w n x) l
    → IsLineTrue (IsReasonTrue a) l
source_line a n x w told l of =
    let source = of.0 in
    let its = of.2 in
    let zone : its.zone ≡ rightmost a.name n.zone = its.above.is in
    let lists : its.chains ≡ told.is.chains =
    one_list a (rightmost a.name n.zone) its.chains told.is.chains (subst (λ (z : Labels). AreSources a z its.chains) zone its.are)
    told.is.are in
    let both : Some its.chain ≡ Some told.chain = sym its.placed ∙ ap (λ (each : List Chain). slice_get each n.place) lists
    ∙ told.is.placed in
    let same : its.chain ≡ told.chain = cc both in
    let source_zone : source.zone ≡ rightmost a.name n.zone = its.its_zone ∙ zone in
    let has : HasRecords a (rightmost a.name n.zone) told.chain = (told.is.are.members told.chain).0
    (contains_at told.is.chains n.place told.chain told.is.placed) in
    subst (IsLineTrue (IsReasonTrue a)) (sym of.4) (record {
      chain = told.chain;
      has = subst (λ (z : Labels). HasRecords a z told.chain) (sym source_zone) has;
      named = subst (λ (c : Chain). IsParametersOf c source.parameters) same its.its_chain;
      is = subst (λ (z : Labels). IsSourceTrue a (source_said a z told.chain) z of.1 w) (sym source_zone) (told.truth of.1 of.3);
    })

-- ---- what it says of a question

module _ (a : Asking) (labels : ℕ) (whole : labels ≡ length a.name) (n : SourceNumber) (chain : Chain) (at : IsChainAt a n chain) where
  -- the name itself
  asked_whole : (x : Labels) → IsAbove a.name labels x → x ≡ a.name
  asked_whole x above = above.is ∙ rightmost_all a.name labels (omega (arith, whole))

  source_told : (x : AskedName) (w : WhySource)
      → ((name_is : Labels) → IsAskedName a.name x name_is
      → IsSourceTrue a (source_said a (rightmost a.name n.zone) chain) (rightmost a.name n.zone) name_is w)
      → IsSourceTold a n x w
  source_told x w truth = record { chain = chain; is = at; truth = truth }

  -- records at a name
  held_true : (x : Labels) → IsAskedOf a (rightmost a.name n.zone) x
      → HasNone (IsDenying (source_said a (rightmost a.name n.zone) chain) x a.rtype)
      → (number : RecordNumber) (w : WhySource) → IsHeldAt (source_said a (rightmost a.name n.zone) chain) x a.rtype number w
      → IsSourceTrue a (source_said a (rightmost a.name n.zone) chain) (rightmost a.name n.zone) x w
  held_true x asked none number w held = by held.held held.is_held held.is_told
    where
      by : (o : Option RecordType) → (source_said a (rightmost a.name n.zone) chain).TypesAt x (λ has. IsHeld has a.rtype o) number
          → w ≡ why_held number o
          → IsSourceTrue a (source_said a (rightmost a.name n.zone) chain) (rightmost a.name n.zone) x w
      by (Some rtype) is told =
          let some = typed_any a (rightmost a.name n.zone) chain x (λ has. IsHeld has a.rtype (Some rtype)) number is in
          subst (IsSourceTrue a (source_said a (rightmost a.name n.zone) chain) (rightmost a.name n.zone) x) (sym told) (
            typed_to a (rightmost a.name n.zone) chain x (λ has. IsHeld has a.rtype (Some rtype)) (λ has. has rtype.0) number is
                (λ has held_one. held_is (IsInBitmap has) a.rtype rtype held_one),
            inl (asked, held_type (IsInBitmap some.0) a.rtype rtype some.1),
          )
      by None is told =
          subst (IsSourceTrue a (source_said a (rightmost a.name n.zone) chain) (rightmost a.name n.zone) x) (sym told)
          (typed_leads a (rightmost a.name n.zone) chain x (λ has. IsHeld has a.rtype None) (λ has. Denies has a.rtype) IsDelegation
          number is (none number)
          (λ has held_one never. held_none has a.rtype held_one never))

  at_told : (x : Labels) (asked_name : AskedName) (found : RecordsAt) → IsAskedOf a (rightmost a.name n.zone) x
      → ((y : Labels) → IsAskedName a.name asked_name y → y ≡ x)
      → AreRecordsAt a.basis (source_said a (rightmost a.name n.zone) chain) x a.rtype found
      → (s : Said) → IsOfRecordsAt n asked_name found s → (l : Line) → IsSaidLine a s l → IsLineTrue (IsReasonTrue a) l
  at_told x asked_name (records.Denying rrsets) asked one are s never l of = absurd never
  at_told x asked_name (records.Holding h) asked one are s told l of =
      let held = are.2 in
      let number = zip_left (IsHeldAt (source_said a (rightmost a.name n.zone) chain) x a.rtype) held.numbers h.held.items told.0 held.each
      (contains_of told.0 h.held.items told.1) in
      source_line a n asked_name told.0 (source_told asked_name told.0 (λ y is.
      subst (λ (z : Labels). IsSourceTrue a (source_said a (rightmost a.name n.zone) chain) (rightmost a.name n.zone) z told.0)
      (sym (one y is))
      (held_true x asked are.0 number.0 told.0 number.2))) l (subst (λ (each : Said). IsSaidLine a each l) told.2 of)

  told_is : (x : AskedName) (w : WhySource) (s : Said) → s ≡ said.Source w n x
      → ((name_is : Labels) → IsAskedName a.name x name_is
      → IsSourceTrue a (source_said a (rightmost a.name n.zone) chain) (rightmost a.name n.zone) name_is w)
      → (l : Line) → IsSaidLine a s l → IsLineTrue (IsReasonTrue a) l
  told_is x w s same truth l of = source_line a n x w (source_told x w truth) l (subst (λ (each : Said). IsSaidLine a each l) same of)

  -- no record is at the name itself
  unmatched_true : HasNone (IsAt (source_said a (rightmost a.name n.zone) chain) a.name) → (y : Labels) → IsAbove a.name labels y
      → IsSourceTrue a (source_said a (rightmost a.name n.zone) chain) (rightmost a.name n.zone) y why.MatchMissing
  unmatched_true none y above =
      let is = asked_whole y above in
      (λ number it. none number (subst (λ (z : Labels). IsAt (source_said a (rightmost a.name n.zone) chain) z number) is it), inl is)

  closed_told : (c : ClosedFacts) → AreClosedFacts a.basis (source_said a (rightmost a.name n.zone) chain) (rightmost a.name n.zone)
      a.name c
      → (b : Bool) → c.is_dname ≡ b → (l : Line)
      → IsSaidLine a (if b then said.DnameHeld c.name c.number else said.Source (why.Delegation c.number) n (name.At c.name)) l
      → IsLineTrue (IsReasonTrue a) l
  closed_told c are true on l of =
      let held = are.by_dname.0 on in
      subst (IsLineTrue (IsReasonTrue a)) (sym of.2) (
        rightmost a.name n.zone,
        chain,
        subst (λ (x : Labels). (source_said a (rightmost a.name n.zone) chain).TypesAt x (λ has. has dname) c.number) (sym of.1.is) held,
        subst (λ (x : Labels). IsBelow a.name x) (sym of.1.is) (rightmost_below a.name c.name are.first.closed.above),
      )
  closed_told c are false off l of =
      source_line a n (name.At c.name) (why.Delegation c.number) (source_told (name.At c.name) (why.Delegation c.number) (λ y is.
      subst (λ (x : Labels). (source_said a (rightmost a.name n.zone) chain).TypesAt x IsDelegation c.number) (sym is.is)
      (typed_leads a (rightmost a.name n.zone) chain (rightmost a.name c.name) IsClosed (λ has. has dname) IsDelegation c.number
      are.first.is
      (λ held. not_true c.is_dname off (are.by_dname.1 held)) (λ has closed never. open_delegation has closed never)))) l of
    where
      open_delegation : (has : ℕ → Bool) → IsClosed (IsInBitmap has) → ¬ IsInBitmap has dname → IsDelegation (IsInBitmap has)
      open_delegation has (inl is) never = is
      open_delegation has (inr is) never = absurd (never is)

  wildcard_told : (ce : ℕ) (next : Labels) (w : WildcardFacts) → ce < length a.name
      → IsAtOrBelow (rightmost a.name ce) (rightmost a.name n.zone)
      → AreWildcardFacts a.basis (source_said a (rightmost a.name n.zone) chain) next (wildcard_of (rightmost a.name ce)) a.rtype w
      → (s : Said) → IsOfWildcard n ce w s → (l : Line) → IsSaidLine a s l → IsLineTrue (IsReasonTrue a) l
  wildcard_told ce next wildcard.OptedOut above within are s never l of = absurd never
  wildcard_told ce next (wildcard.At found) above within are s told l of =
      at_told (wildcard_of (rightmost a.name ce)) (name.Wildcard ce) found (inr (ce, above, within, refl)) (λ y is. is.1) are.2 s told l of
  wildcard_told ce next (wildcard.Covered rrsets) above within are s told l of =
      let below = wildcard_of (rightmost a.name ce) in
      told_is (name.Wildcard ce) (why.CoverMissing role.Wildcard) s told.1 (λ y is.
      subst (λ (z : Labels). IsSourceTrue a (source_said a (rightmost a.name n.zone) chain) (rightmost a.name n.zone) z
      (why.CoverMissing role.Wildcard)) (sym is.1)
      (are.1, none_such a.basis (IsRuledOut (source_said a (rightmost a.name n.zone) chain) below) rrsets.items are.2 told.0)) l of

  pub case_true : (c : SourceCase) → IsSourceCase a.basis (source_said a (rightmost a.name n.zone) chain) (rightmost a.name n.zone) a.name
      a.rtype c
      → (s : Said) → IsOfCase labels n c s → (l : Line) → IsSaidLine a s l → IsLineTrue (IsReasonTrue a) l
  case_true (case.Closed c) are s told l of = closed_told c are c.is_dname refl l (subst (λ (each : Said). IsSaidLine a each l) told of)
  case_true (case.At found) are s told l of = at_told a.name (name.At labels) found (inl refl) asked_whole are.2 s told l of
  case_true case.Apex are s told l of = told_is (name.At labels) why.MatchMissing s told (unmatched_true are.1) l of
  case_true (case.NonTerminal rrsets) are s never l of = absurd never
  case_true case.NoEncloser are s (inl told) l of =
      told_is (name.At labels) why.EncloserMissing s told (λ y above.
      subst (λ (z : Labels). IsSourceTrue a (source_said a (rightmost a.name n.zone) chain) (rightmost a.name n.zone) z
      why.EncloserMissing) (sym (asked_whole y above))
      (inl (
        refl,
        λ count few within. none_open a (rightmost a.name n.zone) chain (rightmost a.name count)
            (λ number is. are.1 count few within (inr (number, is))),
      ))) l of
  case_true case.NoEncloser are s (inr told) l of = told_is (name.At labels) why.MatchMissing s told (unmatched_true are.0.unmatched) l of
  case_true (case.Encloser e) are s (inl (none, inl told)) l of =
      let facts = are.1 in
      let uncovered = none_such a.basis (IsBestCover (source_said a (rightmost a.name n.zone) chain) (rightmost a.name e.next))
      e.covers.items facts.covers none in
      told_is (name.At e.next) (why.CoverMissing role.NextCloser) s told (λ y above.
      subst (λ (z : Labels). IsSourceTrue a (source_said a (rightmost a.name n.zone) chain) (rightmost a.name n.zone) z
      (why.CoverMissing role.NextCloser)) (sym above.is) (
        subst (λ (m : ℕ). HasNone (IsAt (source_said a (rightmost a.name n.zone) chain) (rightmost a.name m))) (sym facts.next)
            (none_next a (rightmost a.name n.zone) chain a.name e.name are.0.open_above are.0.unmatched facts.longest),
        (λ number is. uncovered number (inl is), λ number is. uncovered number (inr (λ other absent. uncovered other (inl absent), is))),
      )) l of
  case_true (case.Encloser e) are s (inl (none, inr told)) l of = told_is (name.At labels) why.MatchMissing s told
      (unmatched_true are.0.unmatched) l of
  case_true (case.Encloser e) are s (inr told) l of =
      wildcard_told e.name (rightmost a.name e.next) e.wildcard are.1.longest.above are.1.longest.within are.1.wildcard s told l of
