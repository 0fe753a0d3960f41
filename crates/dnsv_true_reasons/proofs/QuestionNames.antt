-- What is told of a question that is found names what is there, so a line says it.
use Rattle.std.proofs.Common.{◌≡◌, ◌⊎◌, inl, inr, ⊎_elim, ◌+◌, ◌-◌, ◌<◌, ◌≤◌, ◌==◌, ℕ, zero, suc, Bool, true, false, if◌then◌else◌, List, [], ◌∷◌, Option, Some, None, map, length, refl, sym, ap, ◌∙◌, subst, arith}
use Rattle.std.specs.Prelude.{slice_get}
use Rattle.std.specs.List.{AllZip, enumerate_from, flat_map, range_with_len}
use Rattle.dnsv_names.specs.Name.{Labels, SameName, rightmost}
use Rattle.dnsv_names.specs.Tree.{wildcard_of}
use Rattle.dnsv_records.specs.declared.nsec3.Nsec3Parameters.{Nsec3Parameters}
use Rattle.dnsv_records.specs.declared.rrsig.Rrsig.{Rrsig}
use Rattle.dnsv_canonical.specs.Index.{numbers_at}
use Rattle.dnsv_canonical.specs.Rrsets.{IsNumbered, ReceivedRrset}
use Rattle.dnsv_canonical.specs.declared.number.RecordNumber.{RecordNumber}
use Rattle.dnsv_canonical.specs.declared.number.SignatureNumber.{SignatureNumber}
use Rattle.dnsv_denial.specs.gathering.EvidenceWords.{Chain}
use Rattle.dnsv_denial.specs.gathering.EvidenceWords.Chain.{ByNsec, ByNsec3}
use Rattle.dnsv_lines.specs.declared.line.Line.{Line}
use Rattle.dnsv_lines.specs.declared.line.Line.TheVariants as line
use Rattle.dnsv_lines.specs.declared.line.fault.Reason.TheVariants as reason
use Rattle.dnsv_mending.specs.Ways.{IsAmong}
use Rattle.dnsv_mending.specs.declared.facts.signature.RrsetFacts.{RrsetFacts}
use Rattle.dnsv_mending.specs.declared.facts.signature.SignatureFacts.{SignatureFacts}
use Rattle.dnsv_remedies.specs.Cuts as cuts
use Rattle.dnsv_remedies.specs.Sources as sources
use Rattle.dnsv_remedies.specs.declared.facts.answer.AnswerSignature.{AnswerSignature}
use Rattle.dnsv_remedies.specs.declared.facts.answer.CloserFacts.{CloserFacts}
use Rattle.dnsv_remedies.specs.declared.facts.answer.GoalFacts.{GoalFacts}
use Rattle.dnsv_remedies.specs.declared.facts.cut.CutCase.{CutCase}
use Rattle.dnsv_remedies.specs.declared.facts.cut.CutCase.TheVariants as cut
use Rattle.dnsv_remedies.specs.declared.facts.cut.CutFacts.{CutFacts}
use Rattle.dnsv_remedies.specs.declared.facts.cut.CutSource.{CutSource}
use Rattle.dnsv_remedies.specs.declared.facts.cut.ParentFacts.{ParentFacts}
use Rattle.dnsv_remedies.specs.declared.facts.denial.RecordsAt.{RecordsAt}
use Rattle.dnsv_remedies.specs.declared.facts.denial.RecordsAt.TheVariants as records
use Rattle.dnsv_remedies.specs.declared.facts.denial.SourceCase.{SourceCase}
use Rattle.dnsv_remedies.specs.declared.facts.denial.SourceCase.TheVariants as case
use Rattle.dnsv_remedies.specs.declared.facts.denial.SourceFacts.{SourceFacts}
use Rattle.dnsv_remedies.specs.declared.facts.denial.SpeakerFacts.{SpeakerFacts}
use Rattle.dnsv_remedies.specs.declared.facts.denial.WildcardFacts.{WildcardFacts}
use Rattle.dnsv_remedies.specs.declared.facts.denial.WildcardFacts.TheVariants as wildcard
use Rattle.dnsv_remedies.specs.declared.facts.name.AskedName.{AskedName}
use Rattle.dnsv_remedies.specs.declared.facts.name.AskedName.TheVariants as name
use Rattle.dnsv_remedies.specs.declared.facts.name.SourceNumber.{SourceNumber}
use Rattle.dnsv_remedies.specs.declared.facts.name.UnusableFacts.{UnusableFacts}
use Rattle.dnsv_remedies.specs.declared.facts.question.DnameFacts.{DnameFacts}
use Rattle.dnsv_remedies.specs.declared.facts.question.QuestionFacts.{QuestionFacts}
use Rattle.dnsv_remedies.specs.declared.said.Said.{Said}
use Rattle.dnsv_faults.specs.Rrsets.{AreRrsetFacts}
use Rattle.dnsv_faults.specs.Signatures.{AreSignatureFacts}
use Rattle.dnsv_zone_faults.proofs.lemmas.zones.ClosedLemmas.{among_of, contains_of}
use Rattle.dnsv_zone_faults.proofs.lemmas.zones.PlaceLemmas.{contains_at}
use Rattle.dnsv_zone_faults.proofs.lemmas.zones.TrustLemmas.{zip_left}
use Rattle.dnsv_canonical.proofs.NumberLemmas.{one_numbered}
use Rattle.dnsv_gaps.proofs.QuestionLemmas.CloserLemmas.{fewer_counted}
use Rattle.dnsv_gaps.specs.Asking.{Asking}
use Rattle.dnsv_gaps.specs.Cases.{AreRecordsAt, AreShowing, AreWildcardFacts, IsSourceCase}
use Rattle.dnsv_gaps.specs.Cases.AreShowing.{needless, by_records}
use Rattle.dnsv_gaps.specs.Parts.{AreFactsOf}
use Rattle.dnsv_gaps.specs.Sources.{AreSources, HasRecords, source_said}
use Rattle.dnsv_gaps.specs.Speakers.{AreSourceFacts, AreSpeakerFacts}
use Rattle.dnsv_gaps.specs.Unusable.{AreUnusable}
use Rattle.dnsv_gaps.specs.questions.Closers.{IsCloserOf}
use Rattle.dnsv_gaps.specs.questions.Cuts.{AreCutFacts, AreParentFacts, HasOptOut, IsCutCase, IsCutSource, lowest_cut}
use Rattle.dnsv_gaps.specs.questions.Dnames.{dname_at, lowest}
use Rattle.dnsv_gaps.specs.questions.Goals.{AreGoalFacts, HasItsCloser}
use Rattle.dnsv_gaps.specs.questions.Questions.{AreQuestionFacts}
use Rattle.dnsv_reasons.specs.Lines.{IsSaidLine}
use Rattle.dnsv_trust_reasons.specs.Places.{IsAbove, shown_of}
use Rattle.dnsv_reasons.specs.Sources.{IsAskedName, IsParametersOf}
use Rattle.dnsv_true_reasons.proofs.Members.{among_parts, mapped_among}
use Rattle.dnsv_true_reasons.proofs.telling.Says.{SaysRrset, all_among}
use Rattle.dnsv_true_reasons.proofs.telling.SaysParts.{IsTellable, SaysAll, SaysAt, SaysCase, SaysCut, SaysGoal, SaysNames, SaysParent, SaysRrsets, SaysSource, SaysSpeaker, SaysUnusable, SaysWildcard, TrustOf}
use Rattle.dnsv_true_reasons.proofs.ZoneNames.{says_rrset, says_signature}

-- a line says it
abbrev pub HasLine : Asking → Said → Type 0
HasLine a told = (found : Line) × IsSaidLine a told found

-- each line that may be told of the RRset
abbrev pub HasLines : Asking → RrsetFacts → Type 0
HasLines a r = SaysRrset (TrustOf (HasLine a)) r

-- ---- places

placed_at : {X : Type 0} (all : List X) (n : ℕ) (rest : List X) (p : ℕ × X) → ((i : ℕ) (x : X) → slice_get rest i ≡ Some x → slice_get all (n + i) ≡ Some x)
    → IsAmong p (enumerate_from n rest) → slice_get all p.0 ≡ Some p.1
placed_at all n [] p from among = absurd among
placed_at {X} all n (x ∷ xs) p from among = ⊎_elim
    (λ (here : p ≡ (n, x)).
    let first : n + 0 ≡ n = omega arith in
    subst (λ (each : ℕ × X). slice_get all each.0 ≡ Some each.1) (sym here) (subst (λ (k : ℕ). slice_get all k ≡ Some x) first (from 0 x refl)))
    (λ (later : IsAmong p (enumerate_from (n + 1) xs)). placed_at all (n + 1) xs p
    (λ i y at. let next : n + suc i ≡ n + 1 + i = omega arith in subst (λ (k : ℕ). slice_get all k ≡ Some y) next (from (suc i) y at)) later) among

pub in_place : {X : Type 0} (all : List X) (p : ℕ × X) → IsAmong p (enumerate_from 0 all) → slice_get all p.0 ≡ Some p.1
in_place {X} all p among = placed_at all 0 all p (λ i x at. let same : 0 + i ≡ i = omega arith in subst (λ (k : ℕ). slice_get all k ≡ Some x) (sym same) at) among

pub in_range : (n count c : ℕ) → IsAmong c (range_with_len n count) → (n ≤ c) × (c < n + count)
in_range n zero c among = absurd among
in_range n (suc count) c among = ⊎_elim
    (λ (here : c ≡ n). (omega (arith, here), omega (arith, here)))
    (λ (later : IsAmong c (range_with_len (n + 1) count)).
    let rest = in_range (n + 1) count c later in
    let low = rest.0 in
    let high = rest.1 in
    (omega (arith, low), omega (arith, high))) among

some_flat : {X A : Type 0} (f : X → List A) (xs : List X) (y : A) → IsAmong y (flat_map f xs) → (x : X) × IsAmong x xs × IsAmong y (f x)
some_flat f [] y among = absurd among
some_flat {X} {A} f (x ∷ xs) y among = ⊎_elim
    (λ (here : IsAmong y (f x)). (x, inl refl, here))
    (λ (later : IsAmong y (flat_map f xs)). let rest = some_flat f xs y later in (rest.0, inr rest.1, rest.2))
    (among_parts y (f x) (flat_map f xs) among)

lowest_labels : (labels : ℕ) (numbers : List ℕ) (d : DnameFacts) → IsAmong d (lowest labels numbers) → d.labels ≡ labels
lowest_labels labels [] d among = absurd among
lowest_labels labels (number ∷ numbers) d among = ⊎_elim
    (λ (e : d ≡ record { labels = labels; rrset = number }). ap (λ (x : DnameFacts). x.labels) e) (λ (none : ⊥). absurd none) among

dname_labels : (rrsets : List ReceivedRrset) (name : Labels) (labels : ℕ) (d : DnameFacts) → IsAmong d (dname_at rrsets name labels) → d.labels ≡ labels
unfolding dname_at
dname_labels rrsets name labels d among = lowest_labels labels (numbers_at rrsets (rightmost name labels) 39) d among

lowest_within : (ds : Bool) (n : ℕ) → (if ds then n - 1 else n) ≤ n
lowest_within true n = omega arith
lowest_within false n = omega arith

module _ (a : Asking) where
  -- ---- names

  above_is : (n : ℕ) → n ≤ length a.name → IsAbove a.name n (rightmost a.name n)
  above_is n within = record { within = within; is = refl }

  says_names : SaysNames (HasLine a) (length a.name)
  says_names = record {
    missing = (line.Reason (reason.AnswerMissing (record { name = a.name; rtype = record { 0 = a.rtype }; zone = None })), (None, refl, refl));
    missing_of = λ n within. (
      line.Reason (reason.AnswerMissing (record { name = a.name; rtype = record { 0 = a.rtype }; zone = Some (rightmost a.name n) })),
      (Some (rightmost a.name n), (rightmost a.name n, above_is n within, refl), refl),
    );
    unproved = λ n within. (
      line.Reason (reason.DenialUnproved (record { name = a.name; rtype = record { 0 = a.rtype }; zone = rightmost a.name n })),
      (rightmost a.name n, above_is n within, refl),
    );
    ds_unproved = λ n c within_n within_c. (
      line.Reason (reason.DsUnproved (record { name = rightmost a.name c; zone = rightmost a.name n })),
      (rightmost a.name c, rightmost a.name n, above_is c within_c, above_is n within_n, refl),
    );
    dname_held = λ n number within. (
      line.Reason (reason.Dname (record { name = rightmost a.name n; rrset = number.rrset; place = Some number.place })),
      (rightmost a.name n, above_is n within, refl),
    );
  }

  -- ---- RRsets

  pub says_facts : (Such : RecordNumber → Type 0) (facts : List RrsetFacts) → AreFactsOf a.basis Such facts → SaysRrsets (HasLines a) facts
  says_facts Such facts are r among = says_rrset a r.number r (all_among (λ (each : RrsetFacts). AreRrsetFacts a.basis each.number each) facts r are.each among)

  says_unusable : (zone : Labels) (facts : List UnusableFacts) → AreUnusable a zone facts → SaysUnusable (HasLine a) facts
  says_unusable zone facts are u among =
      let of = (are.members u.number u.why).0 (contains_of u facts among) in (
        line.Reason (reason.Nsec3 (record { why = u.why; owner = of.rrset.owner; number = u.number })),
        (of.rrset, of.at.is_rrset, refl),
      )

  -- ---- sources

  its_parameters : (zone : Labels) (chain : Chain) → HasRecords a zone chain → (parameters : Option Nsec3Parameters) × IsParametersOf chain parameters
  its_parameters zone ByNsec has = (None, refl)
  its_parameters zone (ByNsec3 shared) (number, nsec3, is, same) = (Some is.is.fields.parameters, sym is.is.parameters ∙ same)

  asked_is : (x : AskedName) → IsTellable (length a.name) x → (asked : Labels) × IsAskedName a.name x asked
  asked_is (name.At c) h = (rightmost a.name c, above_is c h)
  asked_is (name.Wildcard c) h = (wildcard_of (rightmost a.name c), (h, refl))

  says_source : (n : SourceNumber) (chains : List Chain) (chain : Chain) → n.zone ≤ length a.name → AreSources a (rightmost a.name n.zone) chains
      → slice_get chains n.place ≡ Some chain → SaysSource (HasLine a) (length a.name) n
  says_source n chains chain within are placed w x h =
      let zone : Labels = rightmost a.name n.zone in
      let its = its_parameters zone chain ((are.members chain).0 (contains_at chains n.place chain placed)) in
      let asked = asked_is x h in (
        line.Reason (reason.Source (record { why = w; source = record { zone = zone; parameters = its.0 }; name = asked.0 })),
        (
          record { zone = zone; parameters = its.0 },
          asked.0,
          record {
            zone = zone;
            above = above_is n.zone within;
            chains = chains;
            are = are;
            chain = chain;
            placed = placed;
            its_zone = refl;
            its_chain = its.1;
          },
          asked.1,
          refl,
        ),
      )

  -- ---- cases

  says_at : (zone : Labels) (chain : Chain) (name : Labels) (r : RecordsAt) → AreRecordsAt a.basis (source_said a zone chain) name a.rtype r → SaysAt (HasLines a) r
  says_at zone chain name (records.Denying rrsets) are = says_facts _ rrsets.items are.1
  says_at zone chain name (records.Holding h) are = says_facts _ h.rrsets.items are.1

  says_wildcard : (zone : Labels) (chain : Chain) (next below : Labels) (w : WildcardFacts)
      → AreWildcardFacts a.basis (source_said a zone chain) next below a.rtype w → SaysWildcard (HasLines a) w
  says_wildcard zone chain next below wildcard.OptedOut are = tt
  says_wildcard zone chain next below (wildcard.At r) are = says_at zone chain below r are.2
  says_wildcard zone chain next below (wildcard.Covered rrsets) are = says_facts _ rrsets.items are.2

  says_showing : (zone : Labels) (chain : Chain) (name : Labels) (facts : List RrsetFacts) → AreShowing a.basis (source_said a zone chain) name facts
      → SaysRrsets (HasLines a) facts
  says_showing zone chain name facts (needless none) r among = absurd among
  says_showing zone chain name facts (by_records needs are) r among = says_facts _ facts are r among

  says_case : (zone : Labels) (chain : Chain) (c : SourceCase) → IsSourceCase a.basis (source_said a zone chain) zone a.name a.rtype c
      → SaysCase (HasLines a) (length a.name) c
  says_case zone chain (case.Closed c) is =
      let above = is.first.closed.above in
      (omega (arith, above), says_facts _ (c.rrset ∷ []) is.rrset c.rrset (inl refl))
  says_case zone chain (case.At r) is = says_at zone chain a.name r is.2
  says_case zone chain (case.NonTerminal rrsets) is = says_facts _ rrsets.items is.4
  says_case zone chain (case.Encloser e) is =
      let facts = is.1 in
      let above = facts.longest.above in
      let next = facts.next in (
        above,
        omega (arith, above, next),
        says_showing zone chain (rightmost a.name e.name) e.shown.items facts.shown,
        says_facts _ e.covers.items facts.covers,
        says_wildcard zone chain (rightmost a.name e.next) (wildcard_of (rightmost a.name e.name)) e.wildcard facts.wildcard,
      )
  says_case zone chain c is = tt

  says_cut : (zone : Labels) (chain : Chain) (HasOne : Type 0) (parent below : Labels) (c : CutCase)
      → IsCutCase a.basis (source_said a zone chain) HasOne parent below c → SaysCut (HasLines a) c
  says_cut zone chain HasOne parent below (cut.Delegation rrsets) is = says_facts _ rrsets.items is.1
  says_cut zone chain HasOne parent below (cut.Signed s) is = says_rrset a s.number.rrset s.rrset is.2
  says_cut zone chain HasOne parent below (cut.OptOut o) is = (says_facts _ o.shown.items is.2, says_facts _ o.covers.items is.3)
  says_cut zone chain HasOne parent below c is = tt

  -- ---- speakers and zones above unsigned delegations

  pub source_of : (labels : ℕ) (chains : List Chain) (facts : List SourceFacts) (s : SourceFacts)
      → AllZip (AreSourceFacts a (rightmost a.name labels)) (enumerate_from 0 chains) facts → IsAmong s facts
      → (p : ℕ × Chain) × (slice_get chains p.0 ≡ Some p.1) × AreSourceFacts a (rightmost a.name labels) p s
  source_of labels chains facts s zip among =
      let one = zip_left (AreSourceFacts a (rightmost a.name labels)) (enumerate_from 0 chains) facts s zip (contains_of s facts among) in
      (one.0, in_place chains one.0 (among_of one.0 (enumerate_from 0 chains) one.1), one.2)

  says_speaker : (z : SpeakerFacts) → AreSpeakerFacts a z → SaysSpeaker (HasLine a) (HasLines a) (length a.name) z
  says_speaker z are = record {
    within = are.within;
    sources = λ s among.
        let of = source_of z.labels are.chains z.sources.items s are.sources among in
        says_source (sources.number_of z.labels s) are.chains of.0.1 are.within are.are_sources
        (subst (λ (k : ℕ). slice_get are.chains k ≡ Some of.0.1) (sym of.2.place) of.1);
    cases = λ s among.
        let of = source_of z.labels are.chains z.sources.items s are.sources among in
        says_case (rightmost a.name z.labels) of.0.1 s.case of.2.its_case;
    unusable = says_unusable (rightmost a.name z.labels) z.unusable.items are.unusable;
  }

  pub cut_of : (z : ParentFacts) (are : AreParentFacts a z) (c : CutFacts) → IsAmong c z.cuts.items
      → (n : ℕ) × (z.labels < n) × (n ≤ length a.name) × AreCutFacts a z.labels are.cuts.next are.cuts.chains n c
  cut_of z are c among =
      let range = range_with_len (z.labels + 1) (lowest_cut a - z.labels) in
      let one = zip_left (AreCutFacts a z.labels are.cuts.next are.cuts.chains) range z.cuts.items c are.cuts.each (contains_of c z.cuts.items among) in
      let inside = in_range (z.labels + 1) (lowest_cut a - z.labels) one.0 (among_of one.0 range one.1) in
      let low = inside.0 in
      let high = inside.1 in
      let least : lowest_cut a ≤ length a.name = lowest_within (a.rtype == 43) (length a.name) in
      (one.0, omega (arith, low), omega (arith, low, high, least), one.2)

  pub cut_source_of : (z : ParentFacts) (are : AreParentFacts a z) (n : ℕ) (c : CutFacts) (its : AreCutFacts a z.labels are.cuts.next are.cuts.chains n c)
      (s : CutSource) → IsAmong s c.sources.items
      → (p : ℕ × Chain) × (slice_get are.cuts.chains p.0 ≡ Some p.1) × IsCutSource a (rightmost a.name z.labels) n p s
  cut_source_of z are n c its s among =
      let one = zip_left (IsCutSource a (rightmost a.name z.labels) n) (enumerate_from 0 are.cuts.chains) c.sources.items s its.sources (contains_of s c.sources.items among) in
      (one.0, in_place are.cuts.chains one.0 (among_of one.0 (enumerate_from 0 are.cuts.chains) one.1), one.2)

  says_parent : (z : ParentFacts) → z.labels ≤ length a.name → AreParentFacts a z → SaysParent (HasLine a) (HasLines a) (length a.name) z
  says_parent z within are = record {
    within = within;
    names = λ c among. let of = cut_of z are c among in let same = of.3.name in let inside = of.2 in omega (arith, same, inside);
    sources = λ c s in_cuts among.
        let of = cut_of z are c in_cuts in
        let by = cut_source_of z are of.0 c of.3 s among in
        says_source (cuts.number_of z.labels s) are.cuts.chains by.0.1 within are.cuts.are_sources
        (subst (λ (k : ℕ). slice_get are.cuts.chains k ≡ Some by.0.1) (sym by.2.place) by.1);
    cases = λ c s in_cuts among.
        let of = cut_of z are c in_cuts in
        let by = cut_source_of z are of.0 c of.3 s among in
        says_cut (rightmost a.name z.labels) by.0.1 (HasOptOut a (rightmost a.name z.labels) by.0.1) (rightmost a.name (of.0 - 1)) (rightmost a.name of.0)
        s.case by.2.its_case;
    unusable = says_unusable (rightmost a.name z.labels) z.unusable.items are.unusable;
  }

  -- ---- answers

  -- what is found of a signature of an RRset that may answer
  pub record IsGoalSignature (g : GoalFacts) (are : AreGoalFacts a g) (s : AnswerSignature) : Type 0 where
    pub number : ℕ
    pub its : AreSignatureFacts a.basis g.number are.rrset number s.signature

  pub goal_signature : (g : GoalFacts) (are : AreGoalFacts a g) (s : AnswerSignature) → IsAmong s g.signatures.items → IsGoalSignature g are s
  goal_signature g are s among =
      let known = are.are_known in
      let there = subst (λ (all : List SignatureFacts). IsAmong s.signature all) are.signatures
      (mapped_among (λ (each : AnswerSignature). each.signature) g.signatures.items s among) in
      let one = zip_left (λ (signature : ℕ × Rrsig) facts. AreSignatureFacts a.basis g.number known.rrset signature.0 facts) known.order are.known.signatures.items
      s.signature known.each (contains_of s.signature are.known.signatures.items there) in
      let same = one_numbered a.basis.rrsets g.number known.rrset are.rrset known.numbered are.numbered in
      record { number = one.0.0; its = subst (λ (r : ReceivedRrset). AreSignatureFacts a.basis g.number r one.0.0 s.signature) same one.2 }

  some_closer : (g : GoalFacts) (s : AnswerSignature) (c : CloserFacts) (rrset : ReceivedRrset) (rrsig : Rrsig) (o : Option CloserFacts) → s.closer ≡ o → o ≡ Some c
      → IsCloserOf a rrset rrsig s.closer → IsCloserOf a rrset rrsig (Some c)
  some_closer g s c rrset rrsig o first second is = subst (IsCloserOf a rrset rrsig) (first ∙ second) is

  says_goal : (g : GoalFacts) → AreGoalFacts a g → ((rrset : ReceivedRrset) → IsNumbered a.basis.rrsets g.number rrset → SameName rrset.owner a.name)
      → SaysGoal (HasLine a) (HasLines a) g
  says_goal g are here = record {
    unsigned = (
      line.Reason (reason.Unsigned (record { owner = are.rrset.owner; rtype = record { 0 = are.rrset.rtype }; rrset = g.number })),
      (are.rrset, are.numbered, refl),
    );
    signatures = λ s among. let of = goal_signature g are s among in says_signature a g.number are.rrset of.number s.signature are.numbered of.its;
    closers = λ s c among is.
        let has = all_among (HasItsCloser a are.rrset) g.signatures.items s are.closers among in
        let of = goal_signature g are s among in
        let open_by = some_closer g s c are.rrset has.rrsig s.closer refl is has.is in
        let fewer = fewer_counted a.name are.rrset.owner has.rrsig (here are.rrset are.numbered) open_by.0.expanded in
        let labels = open_by.1.name in
        let within : c.name ≤ length a.name = omega (arith, fewer, labels) in
        let shown = shown_of s.signature.number are.rrset of.its.rrsig in
        record {
          itself = (
            line.Reason (reason.NoCloser (record { signature = shown; name = rightmost a.name c.name })),
            (
              rightmost a.name c.name,
              shown,
              above_is c.name within,
              record {
                rrset = are.rrset;
                numbered = subst (λ (n : SignatureNumber). IsNumbered a.basis.rrsets n.rrset are.rrset) (sym of.its.number) are.numbered;
                rdata = of.its.its.rdata;
                is_signature = subst (λ (n : SignatureNumber). IsNumbered are.rrset.signatures n.signature of.its.its.rdata) (sym of.its.number) of.its.its.numbered;
                rrsig = of.its.rrsig;
                read = of.its.its.is;
                is = refl;
              },
              refl,
            ),
          );
          covers = says_facts _ c.covers.items open_by.1.covers;
          unusable = says_unusable (rightmost a.name (length has.rrsig.signer)) c.unusable.items open_by.1.unusable;
        };
  }

  -- ---- the question

  -- each line that may be told of the question that is found
  pub says_all : (q : QuestionFacts) → AreQuestionFacts a q → SaysAll (HasLine a) (HasLines a) q
  says_all q are =
      let labels : length a.name ≡ q.labels = sym are.labels in
      record {
        names = subst (SaysNames (HasLine a)) labels says_names;
        goals = λ g among.
            let its = all_among (AreGoalFacts a) q.goals.items g are.goals.each among in
            let such = (are.goals.members g.number).0 (contains_of g.number (map (λ (each : GoalFacts). each.number) q.goals.items)
            (mapped_among (λ (each : GoalFacts). each.number) q.goals.items g among)) in
            says_goal g its (λ rrset numbered.
            let same = one_numbered a.basis.rrsets g.number such.0 rrset such.1 numbered in
            subst (λ (r : ReceivedRrset). SameName r.owner a.name) same such.2.owner);
        dnames = λ d among.
            let there = subst (λ (all : List DnameFacts). IsAmong d all) are.dnames among in
            let of = some_flat (dname_at a.basis.rrsets a.name) (range_with_len 0 (length a.name)) d there in
            let inside = (in_range 0 (length a.name) of.0 of.1).1 in
            let same = dname_labels a.basis.rrsets a.name of.0 d of.2 in
            let within : d.labels ≤ length a.name = omega (arith, inside, same) in (
              line.Reason (reason.Dname (record { name = rightmost a.name d.labels; rrset = d.rrset; place = None })),
              (rightmost a.name d.labels, above_is d.labels within, refl),
            );
        speakers = λ z among. subst (λ (n : ℕ). SaysSpeaker (HasLine a) (HasLines a) n z) labels
            (says_speaker z (all_among (AreSpeakerFacts a) q.speakers.items z are.speakers.each among));
        parents = λ z among.
            let such = (are.parents.members z.labels).0 (contains_of z.labels (map (λ (each : ParentFacts). each.labels) q.parents.items)
            (mapped_among (λ (each : ParentFacts). each.labels) q.parents.items z among)) in
            subst (λ (n : ℕ). SaysParent (HasLine a) (HasLines a) n z) labels
            (says_parent z such.within (all_among (AreParentFacts a) q.parents.items z are.parents.each among));
      }
