-- Where what is found proves a question, the evidence settles it.
use Rattle.std.proofs.Common.{◌≡◌, ◌⊎◌, inl, inr, ⊎_elim, ◌+◌, ◌-◌, ◌<◌, ◌≤◌, ℕ, true, List, [], ◌∷◌, Option, Some, None, length, refl, sym, ap, ◌∙◌, subst, arith}
use Rattle.std.proofs.lemmas.Bool.{false≢true}
use Rattle.dnsv_names.specs.Name.{Labels, IsAtOrBelow, SameName, rightmost}
use Rattle.dnsv_names.specs.Tree.{wildcard_of}
use Rattle.dnsv_names.specs.Tree.AncestorLaws.{rightmost_above, rightmost_in_line, rightmost_length, rightmost_same}
use Rattle.dnsv_names.specs.Tree.TreeLaws.{at_or_below_length, at_or_below_respects, below_by_length}
use Rattle.dnsv_records.specs.declared.rrsig.Rrsig.{Rrsig}
use Rattle.dnsv_zones.specs.forms.Forms as forms
use Rattle.dnsv_zones.specs.forms.Parts.{OptsOut}
use Rattle.dnsv_zones.specs.forms.RecordWords.{words}
use Rattle.dnsv_zones.specs.zones.Types.{Denies, IsUnsignedDelegation}
use Rattle.dnsv_canonical.specs.Rrsets.{ReceivedRrset}
use Rattle.dnsv_canonical.specs.declared.number.RecordNumber.{RecordNumber}
use Rattle.dnsv_canonical.specs.declared.number.SignatureNumber.{SignatureNumber}
use Rattle.dnsv_denial.specs.gathering.EvidenceWords.{Chain, evidence_said}
use Rattle.dnsv_denial.proofs.lemmas.proving.RespelledZoneLemmas.{closer_as}
use Rattle.dnsv_verdict.specs.Secure.{HoldsForName, IsSecureSet}
use Rattle.dnsv_verifier.specs.Admissible.{MaySign}
use Rattle.dnsv_verdict.specs.Verdict.{IsSettledBy}
use Rattle.dnsv_mending.specs.Mend.{is_none}
use Rattle.dnsv_mending.specs.Ways.{IsAmong}
use Rattle.dnsv_mending.specs.declared.facts.signature.RrsetFacts.{RrsetFacts}
use Rattle.dnsv_mending.specs.declared.facts.zone.ZoneFacts.{ZoneFacts}
use Rattle.dnsv_remedies.specs.Reasons.{IsAnswered, IsCaseCut, IsCaseDenial, IsCloserProved, IsCut, IsDenied, IsDeniedAt, IsPart, IsProved, IsWildcardDenied}
use Rattle.dnsv_remedies.specs.declared.facts.answer.AnswerSignature.{AnswerSignature}
use Rattle.dnsv_remedies.specs.declared.facts.answer.CloserFacts.{CloserFacts}
use Rattle.dnsv_remedies.specs.declared.facts.answer.GoalFacts.{GoalFacts}
use Rattle.dnsv_remedies.specs.declared.facts.cut.CutCase.{CutCase}
use Rattle.dnsv_remedies.specs.declared.facts.cut.CutCase.TheVariants as cut
use Rattle.dnsv_remedies.specs.declared.facts.denial.EncloserFacts.{EncloserFacts}
use Rattle.dnsv_remedies.specs.declared.facts.denial.RecordsAt.{RecordsAt}
use Rattle.dnsv_remedies.specs.declared.facts.denial.RecordsAt.TheVariants as records
use Rattle.dnsv_remedies.specs.declared.facts.denial.SourceCase.{SourceCase}
use Rattle.dnsv_remedies.specs.declared.facts.denial.SourceCase.TheVariants as case
use Rattle.dnsv_remedies.specs.declared.facts.denial.WildcardFacts.{WildcardFacts}
use Rattle.dnsv_remedies.specs.declared.facts.denial.WildcardFacts.TheVariants as wildcard
use Rattle.dnsv_remedies.specs.declared.facts.question.QuestionFacts.{QuestionFacts}
use Rattle.dnsv_faults.specs.Signatures.{IsSignatureAt}
use Rattle.dnsv_gaps.proofs.QuestionLemmas.CloserLemmas.{fewer_counted}
use Rattle.dnsv_gaps.specs.Asking.{Asking}
use Rattle.dnsv_gaps.specs.Cases.{AreEncloserFacts, AreRecordsAt, AreShowing, AreWildcardFacts, IsBestCover, IsRuledOut, IsSourceCase}
use Rattle.dnsv_gaps.specs.Cases.AreShowing.{needless, by_records}
use Rattle.dnsv_gaps.specs.Denials.{IsDenialNumber}
use Rattle.dnsv_gaps.specs.Parts.{AreFactsOf}
use Rattle.dnsv_gaps.specs.Sources.{source_said}
use Rattle.dnsv_gaps.specs.Speakers.{AreSpeakerFacts}
use Rattle.dnsv_gaps.specs.questions.Closers as closers
use Rattle.dnsv_gaps.specs.questions.Closers.{IsCloserOf}
use Rattle.dnsv_gaps.specs.questions.Cuts.{AreParentFacts, HasOptOut, IsCutCase}
use Rattle.dnsv_gaps.specs.questions.Goals.{HasItsCloser}
use Rattle.dnsv_gaps.specs.questions.Questions.{AreQuestionFacts}
use Rattle.dnsv_true_reasons.proofs.Parts.{one_signature, part_secured, secured_as}
use Rattle.dnsv_true_reasons.proofs.QuestionNames.{cut_of, cut_source_of, goal_signature, source_of}
use Rattle.dnsv_true_reasons.proofs.telling.Says.{all_among}
use Rattle.dnsv_true_reasons.proofs.Whole.{goal_facts, goal_owner}
use Rattle.dnsv_true_reasons.proofs.Words.{IsItsOwn, Secured, absent_denial, absent_said, empty_denial, empty_said, encloser_denial, encloser_said, needs_none, opted_denial, opted_said, types_denial, types_said}

module _ (a : Asking) where
  -- ---- parts

  module _ (n : ℕ) (within : n ≤ length a.name) (chain : Chain) where
    encloser_part : (name : Labels) (facts : List RrsetFacts) → AreFactsOf a.basis ((source_said a (rightmost a.name n) chain).Encloser name) facts → IsPart n facts
        → (number : RecordNumber) × (evidence_said (Secured a) a.basis.rrsets (rightmost a.name n) chain).Encloser name number
    encloser_part name facts are part =
        let zone : Labels = rightmost a.name n in
        let found = part_secured a n within ((source_said a (rightmost a.name n) chain).Encloser name) facts are
        (λ number says. encloser_denial a (rightmost a.name n) chain name number says) part in
        (found.0, encloser_said a zone chain name found.0 found.2 found.1)

    empty_part : (name : Labels) (facts : List RrsetFacts) → AreFactsOf a.basis ((source_said a (rightmost a.name n) chain).EmptyNonTerminal name) facts → IsPart n facts
        → (number : RecordNumber) × (evidence_said (Secured a) a.basis.rrsets (rightmost a.name n) chain).EmptyNonTerminal name number
    empty_part name facts are part =
        let found = part_secured a n within ((source_said a (rightmost a.name n) chain).EmptyNonTerminal name) facts are
        (λ number says. empty_denial a (rightmost a.name n) chain name number says) part in
        (found.0, empty_said a (rightmost a.name n) chain name found.0 found.2 found.1)

    types_part : (name : Labels) (Says : (ℕ → Type 0) → Type 0) (facts : List RrsetFacts)
        → AreFactsOf a.basis ((source_said a (rightmost a.name n) chain).TypesAt name Says) facts → IsPart n facts
        → (number : RecordNumber) × (evidence_said (Secured a) a.basis.rrsets (rightmost a.name n) chain).TypesAt name Says number
    types_part name Says facts are part =
        let found = part_secured a n within ((source_said a (rightmost a.name n) chain).TypesAt name Says) facts are
        (λ number says. types_denial a (rightmost a.name n) chain name Says number says) part in
        (found.0, types_said a (rightmost a.name n) chain name Says found.0 found.2 found.1)

    opted_part : (name : Labels) (facts : List RrsetFacts) → AreFactsOf a.basis ((source_said a (rightmost a.name n) chain).OptedOut name) facts → IsPart n facts
        → (number : RecordNumber) × (evidence_said (Secured a) a.basis.rrsets (rightmost a.name n) chain).OptedOut name number
    opted_part name facts are part =
        let found = part_secured a n within ((source_said a (rightmost a.name n) chain).OptedOut name) facts are
        (λ number says. opted_denial a (rightmost a.name n) chain name number says) part in
        (found.0, opted_said a (rightmost a.name n) chain name found.0 found.2 found.1)

    cover_denial : (name : Labels) (number : RecordNumber) → IsBestCover (source_said a (rightmost a.name n) chain) name number → IsDenialNumber a (rightmost a.name n) number.rrset
    cover_denial name number (inl says) = absent_denial a (rightmost a.name n) chain name number says
    cover_denial name number (inr says) = opted_denial a (rightmost a.name n) chain name number says.1

    -- a cover, by a record without the Opt-Out flag or with it
    abbrev IsCovered : Labels → Type 0
    IsCovered name = ((number : RecordNumber) × (evidence_said (Secured a) a.basis.rrsets (rightmost a.name n) chain).Absent name number
        × (source_said a (rightmost a.name n) chain).Absent name number)
        ⊎ ((number : RecordNumber) × (evidence_said (Secured a) a.basis.rrsets (rightmost a.name n) chain).OptedOut name number
        × (source_said a (rightmost a.name n) chain).OptedOut name number)

    cover_case : (name : Labels) (number : RecordNumber) → IsItsOwn a (rightmost a.name n) number.rrset → IsBestCover (source_said a (rightmost a.name n) chain) name number → IsCovered name
    cover_case name number own (inl says) = inl (number, absent_said a (rightmost a.name n) chain name number own says, says)
    cover_case name number own (inr says) = inr (number, opted_said a (rightmost a.name n) chain name number own says.1, says.1)

    cover_part : (name : Labels) (facts : List RrsetFacts) → AreFactsOf a.basis (IsBestCover (source_said a (rightmost a.name n) chain) name) facts → IsPart n facts
        → IsCovered name
    cover_part name facts are part =
        let found = part_secured a n within (IsBestCover (source_said a (rightmost a.name n) chain) name) facts are (λ number says. cover_denial name number says) part in
        cover_case name found.0 found.2 found.1

    out_denial : (name : Labels) (number : RecordNumber) → IsRuledOut (source_said a (rightmost a.name n) chain) name number → IsDenialNumber a (rightmost a.name n) number.rrset
    out_denial name number (inl says) = absent_denial a (rightmost a.name n) chain name number says
    out_denial name number (inr (inl says)) = opted_denial a (rightmost a.name n) chain name number says
    out_denial name number (inr (inr says)) = empty_denial a (rightmost a.name n) chain name number says

    -- ---- what the parts prove

    no_name : forms.NoNameForm (words (evidence_said (Secured a) a.basis.rrsets (rightmost a.name n) chain)) (rightmost a.name n) a.name → IsSettledBy a.basis a.name a.rtype
    no_name form = inr (inr (inl (n, within, chain, form)))

    no_data : forms.NoDataForms (words (evidence_said (Secured a) a.basis.rrsets (rightmost a.name n) chain)) (rightmost a.name n) a.name a.rtype
        → IsSettledBy a.basis a.name a.rtype
    no_data form = inr (inr (inr (inl (n, within, chain, form))))

    opt_out : (labels : ℕ) → OptsOut (evidence_said (Secured a) a.basis.rrsets (rightmost a.name n) chain) (rightmost a.name n) a.name labels
        → IsSettledBy a.basis a.name a.rtype
    opt_out labels out = inr (inr (inr (inr (inl (labels, inr (inr (n, within, chain, out)))))))

    delegation : (labels : ℕ) → labels ≤ length a.name
        → forms.UnsignedCutForm (words (evidence_said (Secured a) a.basis.rrsets (rightmost a.name n) chain)) (rightmost a.name n) a.name (rightmost a.name labels)
        → IsSettledBy a.basis a.name a.rtype
    delegation labels inside form = inr (inr (inr (inr (inl (labels, inl (inside, n, within, chain, form))))))

    -- ---- a denial

    denied_at : (r : RecordsAt) → AreRecordsAt a.basis (source_said a (rightmost a.name n) chain) a.name a.rtype r → IsDeniedAt n r → IsSettledBy a.basis a.name a.rtype
    denied_at (records.Denying rrsets) are part =
        no_data (inl (record { within = rightmost_above a.name n; types = types_part a.name (λ has. Denies has a.rtype) rrsets.items are.1 part }))
    denied_at (records.Holding h) are part = absurd part

    empty_at : (rrsets : List RrsetFacts) → AreFactsOf a.basis ((source_said a (rightmost a.name n) chain).EmptyNonTerminal a.name) rrsets → IsPart n rrsets
        → IsSettledBy a.basis a.name a.rtype
    empty_at rrsets are part = no_data (inr (inl (record { within = rightmost_above a.name n; empty_non_terminal = empty_part a.name rrsets are part })))

    module _ (e : EncloserFacts) (facts : AreEncloserFacts a.basis (source_said a (rightmost a.name n) chain) (rightmost a.name n) a.name a.rtype e) where
      above : forms.IsAbove (rightmost a.name n) a.name e.name
      above = record { proper = facts.longest.above; within = facts.longest.within }

      next_is : rightmost a.name e.next ≡ rightmost a.name (e.name + 1)
      next_is = ap (rightmost a.name) facts.next

      shown_by : (rrsets : List RrsetFacts) → AreShowing a.basis (source_said a (rightmost a.name n) chain) (rightmost a.name e.name) rrsets
          → ((is_none rrsets ≡ true) ⊎ IsPart n rrsets) → (words (evidence_said (Secured a) a.basis.rrsets (rightmost a.name n) chain)).Encloser (rightmost a.name e.name)
      shown_by rrsets (needless none) h = inl (needs_none a (rightmost a.name n) chain (rightmost a.name e.name) none)
      shown_by [] (by_records needs are) (inl empty) = absurd (⊎_elim
          (λ (none : (source_said a (rightmost a.name n) chain).NeedsNone (rightmost a.name e.name)). needs none)
          (λ (one : (number : RecordNumber) × (source_said a (rightmost a.name n) chain).Encloser (rightmost a.name e.name) number).
          let there = (are.members one.0.rrset).1 (one.0, refl, one.1) in let inside = there.1 in omega (arith, inside)) facts.longest.shown)
      shown_by (r ∷ rs) (by_records needs are) (inl empty) = absurd (false≢true empty)
      shown_by rrsets (by_records needs are) (inr part) = inr (encloser_part (rightmost a.name e.name) rrsets are part)

      ends : (words (evidence_said (Secured a) a.basis.rrsets (rightmost a.name n) chain)).Encloser (rightmost a.name e.name)
          → ((number : RecordNumber) × (evidence_said (Secured a) a.basis.rrsets (rightmost a.name n) chain).Absent (rightmost a.name e.next) number)
          → forms.EndsAt (words (evidence_said (Secured a) a.basis.rrsets (rightmost a.name n) chain)) (rightmost a.name n) a.name e.name
      ends encloser next = record {
        above = above;
        encloser = encloser;
        next_closer = subst (λ (x : Labels). (number : RecordNumber) × (evidence_said (Secured a) a.basis.rrsets (rightmost a.name n) chain).Absent x number) next_is next;
      }

      -- the next closer name isn't there
      module _ (encloser : (words (evidence_said (Secured a) a.basis.rrsets (rightmost a.name n) chain)).Encloser (rightmost a.name e.name))
          (next : (number : RecordNumber) × (evidence_said (Secured a) a.basis.rrsets (rightmost a.name n) chain).Absent (rightmost a.name e.next) number) where
        wild_out : (number : RecordNumber) → IsItsOwn a (rightmost a.name n) number.rrset
            → IsRuledOut (source_said a (rightmost a.name n) chain) (wildcard_of (rightmost a.name e.name)) number → IsSettledBy a.basis a.name a.rtype
        wild_out number own (inl says) = no_name (record {
          labels = e.name;
          ends = ends encloser next;
          wildcard = (number, absent_said a (rightmost a.name n) chain (wildcard_of (rightmost a.name e.name)) number own says);
        })
        wild_out number own (inr (inl says)) = opt_out e.name (record {
          above = above;
          encloser = encloser;
          next_closer = inl (ends encloser next).next_closer;
          opted_out = inr (number, opted_said a (rightmost a.name n) chain (wildcard_of (rightmost a.name e.name)) number own says);
        })
        wild_out number own (inr (inr says)) = no_data (inr (inr (inr (record {
          labels = e.name;
          ends = ends encloser next;
          empty_non_terminal = (number, empty_said a (rightmost a.name n) chain (wildcard_of (rightmost a.name e.name)) number own says);
        }))))

        wild_at : (r : RecordsAt) → AreRecordsAt a.basis (source_said a (rightmost a.name n) chain) (wildcard_of (rightmost a.name e.name)) a.rtype r → IsDeniedAt n r
            → IsSettledBy a.basis a.name a.rtype
        wild_at (records.Denying rrsets) are part = no_data (inr (inr (inl (record {
          labels = e.name;
          ends = ends encloser next;
          types = types_part (wildcard_of (rightmost a.name e.name)) (λ has. Denies has a.rtype) rrsets.items are.1 part;
        }))))
        wild_at (records.Holding h) are part = absurd part

      wild_case : (w : WildcardFacts) → AreWildcardFacts a.basis (source_said a (rightmost a.name n) chain) (rightmost a.name e.next) (wildcard_of (rightmost a.name e.name)) a.rtype w
          → (words (evidence_said (Secured a) a.basis.rrsets (rightmost a.name n) chain)).Encloser (rightmost a.name e.name) → IsCovered (rightmost a.name e.next)
          → IsWildcardDenied n w → IsSettledBy a.basis a.name a.rtype
      wild_case w are encloser (inr opted) denied = opt_out e.name (
          let by : (number : RecordNumber) × (evidence_said (Secured a) a.basis.rrsets (rightmost a.name n) chain).OptedOut (rightmost a.name (e.name + 1)) number =
          subst (λ (x : Labels). (number : RecordNumber) × (evidence_said (Secured a) a.basis.rrsets (rightmost a.name n) chain).OptedOut x number) next_is (opted.0, opted.1) in
          record { above = above; encloser = encloser; next_closer = inr by; opted_out = inl by })
      wild_case wildcard.OptedOut are encloser (inl absent) denied =
          absurd (are.1 absent.0 absent.2)
      wild_case (wildcard.At r) are encloser (inl absent) denied = wild_at encloser (absent.0, absent.1) r are.2 denied
      wild_case (wildcard.Covered rrsets) are encloser (inl absent) denied =
          let under = wildcard_of (rightmost a.name e.name) in
          let found = part_secured a n within (IsRuledOut (source_said a (rightmost a.name n) chain) under) rrsets.items are.2 (λ number says. out_denial under number says) denied in
          wild_out encloser (absent.0, absent.1) found.0 found.2 found.1

      encloser_settles : ((is_none e.shown.items ≡ true) ⊎ IsPart n e.shown.items) → IsPart n e.covers.items → IsWildcardDenied n e.wildcard
          → IsSettledBy a.basis a.name a.rtype
      encloser_settles shown covers denied =
          wild_case e.wildcard facts.wildcard (shown_by e.shown.items facts.shown shown) (cover_part (rightmost a.name e.next) e.covers.items facts.covers covers) denied

    denial_settles : (c : SourceCase) → IsSourceCase a.basis (source_said a (rightmost a.name n) chain) (rightmost a.name n) a.name a.rtype c → IsCaseDenial n c
        → IsSettledBy a.basis a.name a.rtype
    denial_settles (case.At r) is denies = denied_at r is.2 denies
    denial_settles (case.NonTerminal rrsets) is denies = empty_at rrsets.items is.4 denies
    denial_settles (case.Encloser e) is denies = encloser_settles e is.1 denies.0 denies.1.0 denies.1.1
    denial_settles c is denies = absurd denies

    -- ---- an unsigned delegation

    module _ (c : ℕ) (under : n < c) (inside : c ≤ length a.name) where
      cut_settles : (HasOut : Type 0) (x : CutCase) → IsCutCase a.basis (source_said a (rightmost a.name n) chain) HasOut (rightmost a.name (c - 1)) (rightmost a.name c) x
          → IsCaseCut n x → IsSettledBy a.basis a.name a.rtype
      cut_settles HasOut (cut.Delegation rrsets) is proves =
          let size = rightmost_length a.name c inside in
          let zone_size = rightmost_length a.name n within in
          delegation c inside (record {
            at_or_above = rightmost_above a.name c;
            below_apex = below_by_length (rightmost a.name c) (rightmost a.name n) (rightmost_in_line a.name c n (omega (arith, under))) (omega (arith, size, zone_size, under));
            types = types_part (rightmost a.name c) IsUnsignedDelegation rrsets.items is.1 proves;
          })
      cut_settles HasOut (cut.OptOut o) is proves =
          let next : c ≡ c - 1 + 1 = omega (arith, under) in
          let found = opted_part (rightmost a.name c) o.covers.items is.3 proves.1 in
          let by = subst (λ (m : ℕ). (number : RecordNumber) × (evidence_said (Secured a) a.basis.rrsets (rightmost a.name n) chain).OptedOut (rightmost a.name m) number) next found in
          opt_out (c - 1) (record {
            above = record { proper = omega (arith, under, inside); within = rightmost_in_line a.name (c - 1) n (omega (arith, under)) };
            encloser = inr (encloser_part (rightmost a.name (c - 1)) o.shown.items is.2 proves.0);
            next_closer = inr by;
            opted_out = inl by;
          })
      cut_settles HasOut x is proves = absurd proves

  -- ---- an answer

  module _ (q : QuestionFacts) (of_q : AreQuestionFacts a q) where
    closer_settles : (s : AnswerSignature) (rrset : ReceivedRrset) (rrsig : Rrsig) → s.signature.signer ≡ length rrsig.signer → SameName rrset.owner a.name
        → MaySign rrsig.signer rrset.rtype rrset.owner → IsAtOrBelow a.name rrsig.signer → (o : Option CloserFacts) → IsCloserOf a rrset rrsig o → IsCloserProved s.signature o
        → (HoldsForName (Secured a) a.basis.rrsets a.name rrset rrsig → ⊥) → ⊥
    closer_settles s rrset rrsig same owner may up None not_open proved never =
        never (inl (λ expanded. not_open (record { expanded = expanded; above = up; may = may; unproved = λ denied. never (inr denied) })))
    closer_settles s rrset rrsig same owner may up (Some c) is part never =
        let labels : ℕ = length rrsig.signer in
        let inside = at_or_below_length a.name rrsig.signer up in
        let found = part_secured a labels inside (closers.IsCover a labels rrsig.labels) c.covers.items is.1.covers
        (λ number cover. absent_denial a (rightmost a.name labels) cover.chain (rightmost a.name (rrsig.labels + 1)) number cover.covers)
        (subst (λ (m : ℕ). IsPart m c.covers.items) same part) in
        let cover = found.1 in
        let zone : Labels = rightmost a.name labels in
        let fewer = fewer_counted a.name rrset.owner rrsig owner is.0.expanded in
        let form : forms.NoCloserForm (words (evidence_said (Secured a) a.basis.rrsets zone cover.chain)) zone a.name rrsig.labels = record {
          above = record { proper = fewer; within = rightmost_in_line a.name rrsig.labels labels cover.within };
          next_closer = (found.0, absent_said a zone cover.chain (rightmost a.name (rrsig.labels + 1)) found.0 found.2 cover.covers);
        } in
        never (inr (cover.chain, closer_as (Secured a) a.basis.rrsets a.name rrsig.labels zone rrsig.signer (rightmost_same a.name rrsig.signer up) cover.chain form))

    goal_settles : (g : GoalFacts) (s : AnswerSignature) → IsAmong g q.goals.items → IsAmong s g.signatures.items → s.signature.is_signed ≡ true
        → IsCloserProved s.signature s.closer → ¬ IsSettledBy a.basis a.name a.rtype → ⊥
    goal_settles g s among by signed closer never =
        let are = goal_facts a q of_q g among in
        let is = goal_owner a q of_q g are among in
        let of = goal_signature a g are s by in
        let secured = of.its.signed.0 signed in
        let good = secured_as a.basis g.number of.number are.rrset of.its.rrsig are.numbered of.its.its secured in
        let up : IsAtOrBelow a.name of.its.rrsig.signer =
        at_or_below_respects are.rrset.owner a.name of.its.rrsig.signer of.its.rrsig.signer is.0 refl good.good.admissible.signer.above in
        let has = all_among (HasItsCloser a are.rrset) g.signatures.items s are.closers by in
        let at : IsSignatureAt are.rrset of.number has.rrsig = subst (λ (m : ℕ). IsSignatureAt are.rrset m has.rrsig) (ap (λ (m : SignatureNumber). m.signature) of.its.number) has.its in
        let one = one_signature are.rrset of.number has.rrsig of.its.rrsig at of.its.its in
        let closer_is : IsCloserOf a are.rrset of.its.rrsig s.closer = subst (λ (x : Rrsig). IsCloserOf a are.rrset x s.closer) one has.is in
        closer_settles s are.rrset of.its.rrsig of.its.signer is.0 good.good.admissible.signer up s.closer closer_is closer (λ holds.
        let set_at : (t : ℕ) → are.rrset.rtype ≡ t → IsSecureSet (Secured a) a.basis.rrsets a.name t g.number of.number =
        λ t same. record {
          rrset = are.rrset;
          is_rrset = are.numbered;
          owner = is.0;
          rdata = of.its.its.rdata;
          is_signature = of.its.its.numbered;
          rrsig = of.its.rrsig;
          read = of.its.its.is;
          secured = secured;
          such = (same, holds);
        } in
        ⊎_elim
        (λ (asked : are.rrset.rtype ≡ a.rtype). never (inl (g.number, of.number, set_at a.rtype asked)))
        (λ (alias : are.rrset.rtype ≡ 5). never (inr (inl (
          (λ cname. never (inl (g.number, of.number, set_at a.rtype (alias ∙ sym cname)))),
          (g.number, of.number, set_at 5 alias),
        )))) is.1)

  -- ---- the question

  -- what is proved by what is found the evidence settles
  pub proved_settles : (zones : List ZoneFacts) (q : QuestionFacts) → AreQuestionFacts a q → IsProved zones q
      → ¬ IsSettledBy a.basis a.name a.rtype → ⊥
  proved_settles zones q of_q proved never = ⊎_elim
      (λ (x : IsAnswered q). goal_settles q of_q x.g x.s x.goal x.by x.signed x.closer never)
      (λ (rest : IsDenied zones q ⊎ IsCut zones q). ⊎_elim
      (λ (x : IsDenied zones q).
      let are = all_among (AreSpeakerFacts a) q.speakers.items x.z of_q.speakers.each x.speaker in
      let of = source_of a x.z.labels are.chains x.z.sources.items x.s are.sources x.source in
      never (denial_settles x.z.labels are.within of.0.1 x.s.case of.2.its_case x.denies))
      (λ (x : IsCut zones q).
      let are = all_among (AreParentFacts a) q.parents.items x.z of_q.parents.each x.parent in
      let of = cut_of a x.z are x.c x.name in
      let its = cut_source_of a x.z are of.0 x.c of.3 x.s x.source in
      let below_it = of.1 in
      let inside = of.2 in
      never (cut_settles x.z.labels (omega (arith, below_it, inside)) its.0.1 of.0 below_it inside (HasOptOut a (rightmost a.name x.z.labels) its.0.1)
      x.s.case its.2.its_case x.proves)) rest) proved
