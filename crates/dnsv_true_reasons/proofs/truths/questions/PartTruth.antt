-- What is told of the RRsets of a part is so.
use Rattle.std.proofs.Common.{◌≡◌, ◌⊎◌, ◌+◌, ◌-◌, ◌≤◌, ◌&&◌, ℕ, Bool, true, false, not, inl, inr, List, [], ◌∷◌, Option, Some, length, refl, sym, ap, ◌∙◌, subst, nat_eq, arith}
use Rattle.std.proofs.lemmas.Bool.{eq-eqb, eqb-true, false≢true}
use Rattle.std.specs.List.{AllByRecursion, list_any}
use Rattle.dnsv_names.specs.Name.{Labels, SameName, IsAtOrBelow, lower_case, rightmost}
use Rattle.dnsv_names.specs.Tree.{wildcard_of}
use Rattle.dnsv_names.specs.Tree.AncestorLaws.{rightmost_above, rightmost_length}
use Rattle.dnsv_names.specs.Tree.TreeLaws.{ancestors_in_line, at_or_below_length, at_or_below_respects, at_or_below_trans, same_labels}
use Rattle.dnsv_records.specs.declared.rrsig.Rrsig.{Rrsig}
use Rattle.dnsv_zones.specs.zones.Types.{IsClosed}
use Rattle.dnsv_canonical.specs.Rdata.{IsWellFormed}
use Rattle.dnsv_canonical.specs.declared.number.RecordNumber.{RecordNumber}
use Rattle.dnsv_canonical.proofs.OrderLemmas.{each_of}
use Rattle.dnsv_denial.specs.gathering.EvidenceWords.{Chain}
use Rattle.dnsv_denial.specs.gathering.EvidenceWords.Chain.{ByNsec, ByNsec3}
use Rattle.dnsv_faults.specs.Rrsets.{AreRrsetFacts}
use Rattle.dnsv_faults.specs.Signatures.{AreSignatureFacts}
use Rattle.dnsv_zone_faults.specs.Zones.{AreZoneFacts}
use Rattle.dnsv_zone_faults.proofs.lemmas.zones.ClosedLemmas.{among_of, contains_of, off_by}
use Rattle.dnsv_zone_faults.proofs.lemmas.zones.InPlaceLemmas.{at_or_above}
use Rattle.dnsv_zone_faults.proofs.lemmas.zones.TrustLemmas.{number_of, numbered_among, signature_known, zip_left}
use Rattle.dnsv_canonical.proofs.NumberLemmas.{one_numbered}
use Rattle.dnsv_gaps.specs.Asking.{Asking}
use Rattle.dnsv_gaps.specs.Cases.{AreShowing, AreWildcardFacts, IsBestCover, IsSourceCase}
use Rattle.dnsv_gaps.specs.Cases.AreShowing.{by_records, needless}
use Rattle.dnsv_gaps.specs.Denials.{HasSigner, IsDenialNumber, IsDenialOf, IsStrayOf}
use Rattle.dnsv_gaps.specs.Parts.{AreFactsOf}
use Rattle.dnsv_gaps.specs.Sources.{source_said}
use Rattle.dnsv_gaps.specs.questions.Closers.{AreCloserFacts, IsCloserOf, IsCover, IsOpen}
use Rattle.dnsv_gaps.specs.questions.Cuts.{HasOptOut, IsCutCase}
use Rattle.dnsv_gaps.specs.questions.Questions.{AreQuestionFacts}
use Rattle.dnsv_mending.specs.Ways.{IsAmong}
use Rattle.dnsv_mending.specs.Within.{is_by}
use Rattle.dnsv_mending.specs.declared.facts.signature.RrsetFacts.{RrsetFacts}
use Rattle.dnsv_mending.specs.declared.facts.signature.SignatureFacts.{SignatureFacts}
use Rattle.dnsv_mending.specs.declared.facts.zone.ZoneFacts.{ZoneFacts}
use Rattle.dnsv_mending.specs.declared.told.Told.{Told}
use Rattle.dnsv_mending.proofs.Reasons.{both_true, signer_first}
use Rattle.dnsv_remedies.specs.declared.facts.answer.CloserFacts.{CloserFacts}
use Rattle.dnsv_remedies.specs.declared.facts.cut.CutCase.{CutCase}
use Rattle.dnsv_remedies.specs.declared.facts.cut.CutCase.TheVariants as cut
use Rattle.dnsv_remedies.specs.declared.facts.denial.RecordsAt.{RecordsAt}
use Rattle.dnsv_remedies.specs.declared.facts.denial.RecordsAt.TheVariants as records
use Rattle.dnsv_remedies.specs.declared.facts.denial.SourceCase.{SourceCase}
use Rattle.dnsv_remedies.specs.declared.facts.denial.SourceCase.TheVariants as case
use Rattle.dnsv_remedies.specs.declared.facts.denial.WildcardFacts.{WildcardFacts}
use Rattle.dnsv_remedies.specs.declared.facts.denial.WildcardFacts.TheVariants as wildcard
use Rattle.dnsv_remedies.specs.declared.facts.question.QuestionFacts.{QuestionFacts}
use Rattle.dnsv_gaps.specs.Cases.{AreRecordsAt}
use Rattle.dnsv_verifier.specs.Admissible.{MaySign}
use Rattle.dnsv_true_reasons.proofs.truths.questions.FactsThere.{answer_there, contains_map, cut_source_there, cut_there, one_signature, parent_there, source_there, speaker_there}
use Rattle.dnsv_true_reasons.proofs.truths.ways.PartTold.{IsOfPart, IsOneAt, IsOneOfCase, IsOneOfCut, IsOneOfWildcard, IsPartOf}
use Rattle.dnsv_true_reasons.proofs.truths.ways.PartTold.IsOfPart.{by_another, by_zone, part_unsigned, unfounded}
use Rattle.dnsv_true_reasons.proofs.truths.ways.PartTold.IsPartOf.{of_closer, of_cut, of_source}
use Rattle.dnsv_true_reasons.proofs.truths.ways.PartWays.{none_passes}
use Rattle.dnsv_true_reasons.proofs.truths.zones.RrsetTruth.{one_true, unsigned_true}
use Rattle.dnsv_true_reasons.proofs.truths.zones.TrueTold.{IsTold}

-- ---- what a source says is said by a denial

module _ (a : Asking) (zone : Labels) where
  pub typed_denial : (chain : Chain) (x : Labels) (Says : (ℕ → Type 0) → Type 0) (n : RecordNumber)
      → (source_said a zone chain).TypesAt x Says n
      → IsDenialNumber a zone n.rrset
  typed_denial ByNsec x Says n is = is.1.denial
  typed_denial (ByNsec3 p) x Says n is = is.1.denial

  pub shown_denial : (chain : Chain) (x : Labels) (n : RecordNumber) → (source_said a zone chain).Encloser x n
      → IsDenialNumber a zone n.rrset
  shown_denial ByNsec x n is = is.1.denial
  shown_denial (ByNsec3 p) x n is = is.1.denial

  pub absent_denial : (chain : Chain) (x : Labels) (n : RecordNumber) → (source_said a zone chain).Absent x n
      → IsDenialNumber a zone n.rrset
  absent_denial ByNsec x n is = is.1.denial
  absent_denial (ByNsec3 p) x n is = is.1.denial

  pub empty_denial : (chain : Chain) (x : Labels) (n : RecordNumber) → (source_said a zone chain).EmptyNonTerminal x n
      → IsDenialNumber a zone n.rrset
  empty_denial ByNsec x n is = is.1.denial
  empty_denial (ByNsec3 p) x n is = absurd is

  pub opted_denial : (chain : Chain) (x : Labels) (n : RecordNumber) → (source_said a zone chain).OptedOut x n
      → IsDenialNumber a zone n.rrset
  opted_denial ByNsec x n is = absurd is
  opted_denial (ByNsec3 p) x n is = is.1.denial

-- ---- the facts of an RRset of a part

pub record PartThere (a : Asking) (zone : ℕ) (r : RrsetFacts) : Type 0 where
  pub k : ℕ
  pub its : AreRrsetFacts a.basis k r
  pub denial : IsDenialNumber a (rightmost a.name zone) k
  pub within : zone ≤ length a.name

module _ (a : Asking) (n : ℕ) (within : n ≤ length a.name) where
  of_such : (Such : RecordNumber → Type 0) (rrsets : List RrsetFacts) (r : RrsetFacts) → AreFactsOf a.basis Such rrsets
      → ((number : RecordNumber) → Such number → IsDenialNumber a (rightmost a.name n) number.rrset) → IsAmong r rrsets → PartThere a n r
  of_such Such rrsets r are denies among =
      let its = each_of (λ (each : RrsetFacts). AreRrsetFacts a.basis each.number each) rrsets r are.each (contains_of r rrsets among) in
      let such = (are.members r.number).0 (contains_map (λ (each : RrsetFacts). each.number) rrsets r among) in
      record {
        k = r.number;
        its = its;
        denial = subst (IsDenialNumber a (rightmost a.name n)) such.1 (denies such.0 such.2);
        within = within;
      }

  module _ (chain : Chain) where
    of_records : (x : Labels) (found : RecordsAt) (r : RrsetFacts)
        → AreRecordsAt a.basis (source_said a (rightmost a.name n) chain) x a.rtype found
        → IsOneAt found r → PartThere a n r
    of_records x (records.Denying rrsets) r are among = of_such _ rrsets.items r are.1
        (λ number is. typed_denial a (rightmost a.name n) chain x _ number is) among
    of_records x (records.Holding h) r are among = of_such _ h.rrsets.items r are.1
        (λ number is. typed_denial a (rightmost a.name n) chain x _ number is) among

    of_showing : (x : Labels) (rrsets : List RrsetFacts) (r : RrsetFacts)
        → AreShowing a.basis (source_said a (rightmost a.name n) chain) x rrsets
        → IsAmong r rrsets → PartThere a n r
    of_showing x rrsets r (needless none) among = absurd among
    of_showing x rrsets r (by_records some are) among = of_such _ rrsets r are
        (λ number is. shown_denial a (rightmost a.name n) chain x number is) among

    of_wildcard : (next below : Labels) (w : WildcardFacts) (r : RrsetFacts)
        → AreWildcardFacts a.basis (source_said a (rightmost a.name n) chain) next below a.rtype w → IsOneOfWildcard w r → PartThere a n r
    of_wildcard next below wildcard.OptedOut r are one = absurd one
    of_wildcard next below (wildcard.At found) r are one = of_records below found r are.2 one
    of_wildcard next below (wildcard.Covered rrsets) r are one = of_such _ rrsets.items r are.2 ruled one
      where
        ruled : (number : RecordNumber) → (source_said a (rightmost a.name n) chain).Absent below number
            ⊎ (source_said a (rightmost a.name n) chain).OptedOut below number
            ⊎ (source_said a (rightmost a.name n) chain).EmptyNonTerminal below number
            → IsDenialNumber a (rightmost a.name n) number.rrset
        ruled number (inl is) = absent_denial a (rightmost a.name n) chain below number is
        ruled number (inr (inl is)) = opted_denial a (rightmost a.name n) chain below number is
        ruled number (inr (inr is)) = empty_denial a (rightmost a.name n) chain below number is

    pub of_case : (c : SourceCase) (r : RrsetFacts) → IsSourceCase a.basis (source_said a (rightmost a.name n) chain) (rightmost a.name n)
        a.name a.rtype c
        → IsOneOfCase c r → PartThere a n r
    of_case (case.Closed c) r are one =
        of_such (λ number. number ≡ c.number) (c.rrset ∷ []) r are.rrset
        (λ number same. typed_denial a (rightmost a.name n) chain (rightmost a.name c.name) _ number
        (subst (λ (each : RecordNumber). (source_said a (rightmost a.name n) chain).TypesAt (rightmost a.name c.name) IsClosed each)
        (sym same) are.first.is))
        (inl one)
    of_case (case.At found) r are one = of_records a.name found r are.2 one
    of_case (case.NonTerminal rrsets) r are one = of_such _ rrsets.items r are.4
        (λ number is. empty_denial a (rightmost a.name n) chain a.name number is) one
    of_case (case.Encloser e) r are (inl shown) = of_showing (rightmost a.name e.name) e.shown.items r are.1.shown shown
    of_case (case.Encloser e) r are (inr (inl covered)) = of_such _ e.covers.items r are.1.covers covering covered
      where
        covering : (number : RecordNumber) → IsBestCover (source_said a (rightmost a.name n) chain) (rightmost a.name e.next) number
            → IsDenialNumber a (rightmost a.name n) number.rrset
        covering number (inl is) = absent_denial a (rightmost a.name n) chain (rightmost a.name e.next) number is
        covering number (inr is) = opted_denial a (rightmost a.name n) chain (rightmost a.name e.next) number is.1
    of_case (case.Encloser e) r are (inr (inr one)) = of_wildcard (rightmost a.name e.next) (wildcard_of (rightmost a.name e.name))
        e.wildcard r are.1.wildcard one
    of_case c r are one = absurd one

    pub of_cut_case : (parent x : Labels) (c : CutCase) (r : RrsetFacts)
        → IsCutCase a.basis (source_said a (rightmost a.name n) chain) (HasOptOut a (rightmost a.name n) chain) parent x c
        → IsOneOfCut c r → PartThere a n r
    of_cut_case parent x (cut.Delegation rrsets) r are one = of_such _ rrsets.items r are.1
        (λ number is. typed_denial a (rightmost a.name n) chain x _ number is) one
    of_cut_case parent x (cut.Signed s) r are one = record {
      k = s.number.rrset;
      its = subst (AreRrsetFacts a.basis s.number.rrset) (sym one) are.2;
      denial = typed_denial a (rightmost a.name n) chain x _ s.number are.1.1;
      within = within;
    }
    of_cut_case parent x (cut.OptOut o) r are (inl shown) = of_such _ o.shown.items r are.2
        (λ number is. shown_denial a (rightmost a.name n) chain parent number is) shown
    of_cut_case parent x (cut.OptOut o) r are (inr covered) = of_such _ o.covers.items r are.3
        (λ number is. opted_denial a (rightmost a.name n) chain x number is) covered
    of_cut_case parent x c r are one = absurd one

pub part_there : (a : Asking) (q : QuestionFacts) → AreQuestionFacts a q → (zone : ℕ) (r : RrsetFacts) → IsPartOf q zone r
    → PartThere a zone r
part_there a q are zone r (of_closer g s c x goal by is among) =
    let there = answer_there a q are g s goal by in
    let closer = closer_is s.closer is there.closer in
    let rrsig = there.its.rrsig in
    let labels : length rrsig.signer ≡ s.signature.signer = sym there.its.signer in
    let fewer : length rrsig.signer ≤ length a.name = at_or_below_length a.name rrsig.signer closer.0.above in
    subst (λ (n : ℕ). PartThere a n r) labels
    (of_such a (length rrsig.signer) fewer (λ number. IsCover a (length rrsig.signer) rrsig.labels number) c.covers.items r closer.1.covers
    (λ number covers. absent_denial a (rightmost a.name (length rrsig.signer)) covers.chain (rightmost a.name (rrsig.labels + 1)) number
    covers.covers) among)
  where
    closer_is : (o : Option CloserFacts) → o ≡ Some c → IsCloserOf a (answer_there a q are g s goal by).goal.are.rrset
        (answer_there a q are g s goal by).its.rrsig o
        → IsOpen a (answer_there a q are g s goal by).goal.are.rrset (answer_there a q are g s goal by).its.rrsig
        × AreCloserFacts a (answer_there a q are g s goal by).its.rrsig c
    closer_is o same of = subst (λ (each : Option CloserFacts). IsCloserOf a (answer_there a q are g s goal by).goal.are.rrset
        (answer_there a q are g s goal by).its.rrsig each) same of
part_there a q are zone r (of_source z s x speaker source one) =
    let its = speaker_there a q are z speaker in
    let there = source_there a z its s source in
    of_case a z.labels its.within there.chain s.case r there.its_case one
part_there a q are zone r (of_cut z c s x parent name source one) =
    let there = parent_there a q are z parent in
    let below = cut_there a z there.are c name in
    let says = cut_source_there a z c below s source in
    of_cut_case a z.labels there.is.within says.chain (rightmost a.name (c.name - 1)) (rightmost a.name c.name) s.case r says.its_case one

-- ---- what is told of it

both_on : (x y : Bool) → x ≡ true → y ≡ true → (x && y) ≡ true
both_on true y first second = second
both_on false y first second = absurd (false≢true first)

not_stray_type : (n : ℕ) → (n ≡ 47) ⊎ (n ≡ 50) → (n ≡ 43 → ⊥) × (n ≡ 48 → ⊥)
not_stray_type n (inl is) = (λ other. absurd (omega (arith, is, other)), λ other. absurd (omega (arith, is, other)))
not_stray_type n (inr is) = (λ other. absurd (omega (arith, is, other)), λ other. absurd (omega (arith, is, other)))

module _ (a : Asking) (zones : List ZoneFacts) (are : AreZoneFacts a.basis a.name a.rtype zones)
    (formed : AllByRecursion IsWellFormed a.basis.rrsets)
    (zone : ℕ) (r : RrsetFacts) (there : PartThere a zone r) where
  -- the RRset is a denial of the zone, at or below it
  denial : IsDenialOf a (rightmost a.name zone) there.its.rrset
  denial = subst (IsDenialOf a (rightmost a.name zone))
      (one_numbered a.basis.rrsets there.k there.denial.rrset there.its.rrset there.denial.numbered there.its.numbered) there.denial.denial

  -- a signer at or above its owner with as many labels as the zone is the zone
  its_zone : (signer : Labels) → IsAtOrBelow there.its.rrset.owner signer → length signer ≡ zone
      → IsAtOrBelow a.name signer
  its_zone signer above count =
      let labels = rightmost_length a.name zone there.within in
      at_or_below_trans a.name (rightmost a.name zone) signer (rightmost_above a.name zone)
      (ancestors_in_line there.its.rrset.owner signer (rightmost a.name zone) above denial.below (omega (arith, labels, count)))

  -- where no signature of it is by the zone, all have another fault
  foreign : (s : SignatureFacts) → IsAmong s r.signatures.items → list_any (is_by zone) r.signatures.items ≡ false
      → s.faults.signer ≡ false → ⊥
  foreign s among none may = by denial.its
    where
      by : HasSigner there.its.rrset (rightmost a.name zone) ⊎ IsStrayOf a (rightmost a.name zone) there.its.rrset → ⊥
      by (inl signed) =
          let at = number_of there.its.rrset.signatures signed.its.0 signed.its.1 in
          let found = signature_known a.basis there.k r there.its at.0 signed.rrsig
          (record { rdata = signed.its.0; numbered = at.1; is = signed.its.2 }) in
          let same = one_signature there.its.rrset at.0 found.are.rrsig signed.rrsig found.are.its
          (record { rdata = signed.its.0; numbered = at.1; is = signed.its.2 }) in
          let signer : SameName found.are.rrsig.signer (rightmost a.name zone) = ap (λ (x : Rrsig). lower_case x.signer) same
          ∙ signed.signer in
          let types = not_stray_type there.its.rrset.rtype denial.denial.its_type in
          let may_be : MaySign found.are.rrsig.signer there.its.rrset.rtype there.its.rrset.owner = record {
            above = at_or_below_respects there.its.rrset.owner there.its.rrset.owner (rightmost a.name zone) found.are.rrsig.signer refl
                (sym signer) denial.below;
            ds = λ is. absurd (types.0 is);
            dnskey = λ is. absurd (types.1 is);
          } in
          let fine : found.known.faults.signer ≡ false = off_by found.known.faults.signer (λ on. found.are.faults.signer.0 on may_be) in
          let count : found.known.signer ≡ zone =
          found.are.signer ∙ same_labels found.are.rrsig.signer (rightmost a.name zone) signer
          ∙ rightmost_length a.name zone there.within in
          let passes : is_by zone found.known ≡ true = both_on (not found.known.faults.signer) _ (ap not fine)
          (eq-eqb found.known.signer zone count) in
          false≢true (sym (none_passes (is_by zone) r.signatures.items found.known none
          (among_of found.known r.signatures.items found.among)) ∙ passes)
      by (inr stray) =
          let one = zip_left (λ (signature : ℕ × Rrsig) known. AreSignatureFacts a.basis there.k there.its.rrset signature.0 known)
          there.its.order
          r.signatures.items s there.its.each (contains_of s r.signatures.items among) in
          let up = at_or_above a.basis a.name a.rtype zones are there.k there.its.rrset one.0.0 s one.2 may in
          stray.stray one.2.rrsig (
            one.2.its.rdata,
            numbered_among there.its.rrset.signatures one.0.0 one.2.its.rdata one.2.its.numbered,
            one.2.its.is,
          ) up

  pub part_true : (line : Told) → IsOfPart zones zone r line → IsTold a.basis a.name line
  part_true line (part_unsigned none) = unsigned_true a.basis a.name a.rtype zones are formed there.k r there.its none
  part_true line (by_zone s x among is of) =
      let its = both_true (not s.faults.signer) (nat_eq s.signer zone) is in
      one_true a.basis a.name a.rtype zones are formed there.k r there.its s among (λ sn one may.
      its_zone one.rrsig.signer (at_or_above a.basis a.name a.rtype zones are there.k there.its.rrset sn s one may)
      (sym one.signer ∙ eqb-true s.signer zone its.1)) line of
  part_true line (by_another s x among none of) =
      one_true a.basis a.name a.rtype zones are formed there.k r there.its s among (λ sn one may. absurd (foreign s among none may)) line of
  part_true line (unfounded s among none clean) = absurd (faulty s.faults.signer refl)
    where
      faulty : (b : Bool) → s.faults.signer ≡ b → ⊥
      faulty true on = signer_first s on clean
      faulty false off = foreign s among none off
