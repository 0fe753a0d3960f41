-- What is found of a question: signatures of which only that is told are by an untrusted zone.
use Rattle.std.proofs.Common.{◌≡◌, inl, inr, ◌+◌, ◌-◌, ◌≤◌, ℕ, List, [], ◌∷◌, Some, length, refl, sym, ap, subst, arith}
use Rattle.std.specs.Prelude.{⊤, slice_get}
use Rattle.dnsv_names.specs.Name.{Labels, SameName, rightmost}
use Rattle.dnsv_names.specs.Tree.{wildcard_of}
use Rattle.dnsv_names.specs.Tree.TreeLaws.{at_or_below_length}
use Rattle.dnsv_records.specs.declared.rrsig.Rrsig.{Rrsig}
use Rattle.dnsv_zones.specs.zones.Types.{Denies, IsClosed, IsUnsignedDelegation}
use Rattle.dnsv_canonical.specs.declared.number.RecordNumber.{RecordNumber}
use Rattle.dnsv_canonical.specs.declared.number.SignatureNumber.{SignatureNumber}
use Rattle.dnsv_denial.specs.gathering.EvidenceWords.{Chain}
use Rattle.dnsv_mending.specs.Ways.{IsAmong}
use Rattle.dnsv_mending.specs.declared.facts.signature.RrsetFacts.{RrsetFacts}
use Rattle.dnsv_mending.specs.declared.facts.zone.ZoneFacts.{ZoneFacts}
use Rattle.dnsv_mending.proofs.SomeWays.{at_within}
use Rattle.dnsv_remedies.specs.Sources as sources
use Rattle.dnsv_remedies.specs.declared.facts.answer.AnswerSignature.{AnswerSignature}
use Rattle.dnsv_remedies.specs.declared.facts.answer.GoalFacts.{GoalFacts}
use Rattle.dnsv_remedies.specs.declared.facts.cut.CutCase.{CutCase}
use Rattle.dnsv_remedies.specs.declared.facts.cut.CutCase.TheVariants as cut
use Rattle.dnsv_remedies.specs.declared.facts.cut.ParentFacts.{ParentFacts}
use Rattle.dnsv_remedies.specs.declared.facts.denial.RecordsAt.{RecordsAt}
use Rattle.dnsv_remedies.specs.declared.facts.denial.RecordsAt.TheVariants as records
use Rattle.dnsv_remedies.specs.declared.facts.denial.SourceCase.{SourceCase}
use Rattle.dnsv_remedies.specs.declared.facts.denial.SourceCase.TheVariants as case
use Rattle.dnsv_remedies.specs.declared.facts.denial.SpeakerFacts.{SpeakerFacts}
use Rattle.dnsv_remedies.specs.declared.facts.denial.WildcardFacts.{WildcardFacts}
use Rattle.dnsv_remedies.specs.declared.facts.denial.WildcardFacts.TheVariants as wildcard
use Rattle.dnsv_remedies.specs.declared.facts.question.QuestionFacts.{QuestionFacts}
use Rattle.dnsv_faults.specs.Rrsets.{AreRrsetFacts}
use Rattle.dnsv_faults.specs.Signatures.{IsSignatureAt}
use Rattle.dnsv_zone_faults.specs.Zones.{AreZoneFacts}
use Rattle.dnsv_gaps.specs.Asking.{Asking}
use Rattle.dnsv_gaps.specs.Cases.{AreRecordsAt, AreShowing, AreWildcardFacts, IsAt, IsBestCover, IsRuledOut, IsSourceCase}
use Rattle.dnsv_gaps.specs.Cases.AreShowing.{needless, by_records}
use Rattle.dnsv_gaps.specs.Denials.{IsDenialNumber}
use Rattle.dnsv_gaps.specs.Parts.{AreFactsOf}
use Rattle.dnsv_gaps.specs.Sources.{source_said}
use Rattle.dnsv_gaps.specs.Speakers.{AreSpeakerFacts}
use Rattle.dnsv_gaps.specs.questions.Closers as closers
use Rattle.dnsv_gaps.specs.questions.Closers.{IsCloserOf}
use Rattle.dnsv_gaps.specs.questions.Cuts.{AreParentFacts, HasOptOut, IsCutCase}
use Rattle.dnsv_gaps.specs.questions.Goals.{HasItsCloser}
use Rattle.dnsv_gaps.specs.questions.Questions.{AreQuestionFacts}
use Rattle.dnsv_true_reasons.proofs.untrusted.EndsNames.{By, SaidOf, by_signer, shown_signer}
use Rattle.dnsv_true_reasons.proofs.untrusted.EndsParts.{IsOwnBy, IsRrsetBy}
use Rattle.dnsv_true_reasons.proofs.untrusted.EndsQuestion.{AnswerBy, IsQuestionBy}
use Rattle.dnsv_true_reasons.proofs.Parts.{one_signature, by_zone, facts_at, facts_by, facts_of, rrset_of}
use Rattle.dnsv_true_reasons.proofs.QuestionNames.{cut_of, cut_source_of, goal_signature, source_of}
use Rattle.dnsv_true_reasons.proofs.telling.Says.{all_among}
use Rattle.dnsv_true_reasons.proofs.telling.SaysParts.{SaysAt, SaysCase, SaysCut, SaysParent, SaysRrsets, SaysSpeaker, SaysWildcard}
use Rattle.dnsv_true_reasons.proofs.Whole.{answer_whole, goal_facts, goal_owner, parent_within, signer_above}
use Rattle.dnsv_true_reasons.proofs.Words.{absent_denial, empty_denial, encloser_denial, opted_denial, types_denial}

module _ (a : Asking) (zones : List ZoneFacts) (of_zones : AreZoneFacts a.basis a.name a.rtype zones) where
  -- ---- RRsets of denials

  -- an RRset by its number
  rrset_fits : (n : ℕ) → n ≤ length a.name → (r : RrsetFacts) (facts : AreRrsetFacts a.basis r.number r) → IsDenialNumber a (rightmost a.name n) r.number
      → IsRrsetBy zones (SaidOf a) (By a) n r
  rrset_fits n within r facts denial = record {
    of = rrset_of a n within r facts denial;
    by = λ s among h shown is.
        let its = by_zone a n within r facts denial s among h in
        subst (λ (x : Labels). SameName x (rightmost a.name n)) (sym (shown_signer a zones of_zones r.number facts.rrset its.0 s its.1.0 facts.numbered shown is)) its.1.1;
  }

  facts_fit : (n : ℕ) (within : n ≤ length a.name) (Such : RecordNumber → Type 0) (facts : List RrsetFacts) (are : AreFactsOf a.basis Such facts)
      → ((number : RecordNumber) → Such number → IsDenialNumber a (rightmost a.name n) number.rrset) → SaysRrsets (IsRrsetBy zones (SaidOf a) (By a) n) facts
  facts_fit n within Such facts are denials r among = record {
    of = facts_of a n within Such facts are denials r among;
    by = λ s in_rrset h shown is.
        let its = facts_by a n within Such facts are denials r among s in_rrset h in
        let rr = facts_at a n within Such facts are denials r among in
        subst (λ (x : Labels). SameName x (rightmost a.name n)) (sym (shown_signer a zones of_zones r.number rr.rrset its.0 s its.1.0 rr.numbered shown is)) its.1.1;
  }

  -- ---- cases

  module _ (n : ℕ) (within : n ≤ length a.name) (chain : Chain) where
    types_fit : (name : Labels) (Says : (ℕ → Type 0) → Type 0) (facts : List RrsetFacts)
        → AreFactsOf a.basis ((source_said a (rightmost a.name n) chain).TypesAt name Says) facts → SaysRrsets (IsRrsetBy zones (SaidOf a) (By a) n) facts
    types_fit name Says facts are = facts_fit n within ((source_said a (rightmost a.name n) chain).TypesAt name Says) facts are
        (λ number says. types_denial a (rightmost a.name n) chain name Says number says)

    encloser_fit : (name : Labels) (facts : List RrsetFacts) → AreFactsOf a.basis ((source_said a (rightmost a.name n) chain).Encloser name) facts
        → SaysRrsets (IsRrsetBy zones (SaidOf a) (By a) n) facts
    encloser_fit name facts are = facts_fit n within ((source_said a (rightmost a.name n) chain).Encloser name) facts are
        (λ number says. encloser_denial a (rightmost a.name n) chain name number says)

    opted_fit : (name : Labels) (facts : List RrsetFacts) → AreFactsOf a.basis ((source_said a (rightmost a.name n) chain).OptedOut name) facts
        → SaysRrsets (IsRrsetBy zones (SaidOf a) (By a) n) facts
    opted_fit name facts are = facts_fit n within ((source_said a (rightmost a.name n) chain).OptedOut name) facts are
        (λ number says. opted_denial a (rightmost a.name n) chain name number says)

    cover_denial : (name : Labels) (number : RecordNumber) → IsBestCover (source_said a (rightmost a.name n) chain) name number → IsDenialNumber a (rightmost a.name n) number.rrset
    cover_denial name number (inl says) = absent_denial a (rightmost a.name n) chain name number says
    cover_denial name number (inr says) = opted_denial a (rightmost a.name n) chain name number says.1

    out_denial : (name : Labels) (number : RecordNumber) → IsRuledOut (source_said a (rightmost a.name n) chain) name number → IsDenialNumber a (rightmost a.name n) number.rrset
    out_denial name number (inl says) = absent_denial a (rightmost a.name n) chain name number says
    out_denial name number (inr (inl says)) = opted_denial a (rightmost a.name n) chain name number says
    out_denial name number (inr (inr says)) = empty_denial a (rightmost a.name n) chain name number says

    at_fits : (name : Labels) (r : RecordsAt) → AreRecordsAt a.basis (source_said a (rightmost a.name n) chain) name a.rtype r → SaysAt (IsRrsetBy zones (SaidOf a) (By a) n) r
    at_fits name (records.Denying rrsets) are = types_fit name (λ has. Denies has a.rtype) rrsets.items are.1
    at_fits name (records.Holding h) are = facts_fit n within (IsAt (source_said a (rightmost a.name n) chain) name) h.rrsets.items are.1
        (λ number says. types_denial a (rightmost a.name n) chain name (λ has. ⊤) number says)

    wildcard_fits : (next under : Labels) (w : WildcardFacts) → AreWildcardFacts a.basis (source_said a (rightmost a.name n) chain) next under a.rtype w
        → SaysWildcard (IsRrsetBy zones (SaidOf a) (By a) n) w
    wildcard_fits next under wildcard.OptedOut are = tt
    wildcard_fits next under (wildcard.At r) are = at_fits under r are.2
    wildcard_fits next under (wildcard.Covered rrsets) are =
        facts_fit n within (IsRuledOut (source_said a (rightmost a.name n) chain) under) rrsets.items are.2 (λ number says. out_denial under number says)

    showing_fits : (name : Labels) (facts : List RrsetFacts) → AreShowing a.basis (source_said a (rightmost a.name n) chain) name facts
        → SaysRrsets (IsRrsetBy zones (SaidOf a) (By a) n) facts
    showing_fits name facts (needless none) r among = absurd among
    showing_fits name facts (by_records needs are) r among = encloser_fit name facts are r among

    case_fits : (c : SourceCase) → IsSourceCase a.basis (source_said a (rightmost a.name n) chain) (rightmost a.name n) a.name a.rtype c
        → SaysCase (IsRrsetBy zones (SaidOf a) (By a) n) (length a.name) c
    case_fits (case.Closed c) is =
        let above = is.first.closed.above in
        let first = is.first.is in (
          omega (arith, above),
          facts_fit n within (λ number. number ≡ c.number) (c.rrset ∷ []) is.rrset
              (λ number same. subst (λ (m : RecordNumber). IsDenialNumber a (rightmost a.name n) m.rrset) (sym same)
              (types_denial a (rightmost a.name n) chain (rightmost a.name c.name) IsClosed c.number first)) c.rrset (inl refl),
        )
    case_fits (case.At r) is = at_fits a.name r is.2
    case_fits (case.NonTerminal rrsets) is = facts_fit n within ((source_said a (rightmost a.name n) chain).EmptyNonTerminal a.name) rrsets.items is.4
        (λ number says. empty_denial a (rightmost a.name n) chain a.name number says)
    case_fits (case.Encloser e) is =
        let its = is.1 in
        let next : Labels = rightmost a.name e.next in
        let proper = its.longest.above in
        let one_more = its.next in (
          proper,
          omega (arith, proper, one_more),
          showing_fits (rightmost a.name e.name) e.shown.items its.shown,
          facts_fit n within (IsBestCover (source_said a (rightmost a.name n) chain) next) e.covers.items its.covers (λ number says. cover_denial next number says),
          wildcard_fits next (wildcard_of (rightmost a.name e.name)) e.wildcard its.wildcard,
        )
    case_fits c is = tt

    cut_fits : (HasOut : Type 0) (parent name : Labels) (c : CutCase) → IsCutCase a.basis (source_said a (rightmost a.name n) chain) HasOut parent name c
        → SaysCut (IsRrsetBy zones (SaidOf a) (By a) n) c
    cut_fits HasOut parent name (cut.Delegation rrsets) is = types_fit name IsUnsignedDelegation rrsets.items is.1
    cut_fits HasOut parent name (cut.Signed s) is =
        let same = is.2.number in
        let denial = types_denial a (rightmost a.name n) chain name (λ has. ⊤) s.number is.1.0.says in
        rrset_fits n within s.rrset (subst (λ (k : ℕ). AreRrsetFacts a.basis k s.rrset) (sym same) is.2)
        (subst (λ (k : ℕ). IsDenialNumber a (rightmost a.name n) k) (sym same) denial)
    cut_fits HasOut parent name (cut.OptOut o) is = (encloser_fit parent o.shown.items is.2, opted_fit name o.covers.items is.3)
    cut_fits HasOut parent name c is = tt

  -- ---- the question

  zone_there : (n : ℕ) → n ≤ length a.name → (z : ZoneFacts) × (slice_get zones n ≡ Some z)
  zone_there n within =
      let count = of_zones.count in
      let at = at_within zones n (omega (arith, within, count)) in
      (at.x, at.is)

  module _ (q : QuestionFacts) (of_q : AreQuestionFacts a q) where
    speaker_by : (z : SpeakerFacts) → IsAmong z q.speakers.items → SaysSpeaker (IsOwnBy zones (SaidOf a) (By a) z.labels) (IsRrsetBy zones (SaidOf a) (By a) z.labels) (length a.name) z
    speaker_by z among =
        let are = all_among (AreSpeakerFacts a) q.speakers.items z of_q.speakers.each among in
        record {
          within = are.within;
          sources = λ s by w x h k e. absurd (cc e);
          cases = λ s by.
              let of = source_of a z.labels are.chains z.sources.items s are.sources by in
              case_fits z.labels are.within of.0.1 s.case of.2.its_case;
          unusable = λ u in_unusable k e. absurd (cc e);
        }

    parent_by : (z : ParentFacts) → IsAmong z q.parents.items → SaysParent (IsOwnBy zones (SaidOf a) (By a) z.labels) (IsRrsetBy zones (SaidOf a) (By a) z.labels) (length a.name) z
    parent_by z among =
        let are = all_among (AreParentFacts a) q.parents.items z of_q.parents.each among in
        let within = parent_within a zones of_zones q of_q z among in
        record {
          within = within;
          names = λ c in_cuts. let of = cut_of a z are c in_cuts in let same = of.3.name in let inside = of.2 in omega (arith, same, inside);
          sources = λ c s in_cuts by w x h k e. absurd (cc e);
          cases = λ c s in_cuts by.
              let of = cut_of a z are c in_cuts in
              let its = cut_source_of a z are of.0 c of.3 s by in
              cut_fits z.labels within its.0.1 (HasOptOut a (rightmost a.name z.labels) its.0.1) (rightmost a.name (of.0 - 1)) (rightmost a.name of.0) s.case its.2.its_case;
          unusable = λ u in_unusable k e. absurd (cc e);
        }

    -- what the signature asks for, as it is read here
    closer_rrsig : (g : GoalFacts) (s : AnswerSignature) (among : IsAmong g q.goals.items) (by : IsAmong s g.signatures.items)
        → IsCloserOf a (goal_facts a q of_q g among).rrset (goal_signature a g (goal_facts a q of_q g among) s by).its.rrsig s.closer
    closer_rrsig g s among by =
        let are = goal_facts a q of_q g among in
        let of = goal_signature a g are s by in
        let has = all_among (HasItsCloser a are.rrset) g.signatures.items s are.closers by in
        let at : IsSignatureAt are.rrset of.number has.rrsig =
        subst (λ (m : ℕ). IsSignatureAt are.rrset m has.rrsig) (ap (λ (m : SignatureNumber). m.signature) of.its.number) has.its in
        subst (λ (x : Rrsig). IsCloserOf a are.rrset x s.closer) (one_signature are.rrset of.number has.rrsig of.its.rrsig at of.its.its) has.is

    answer_by : (g : GoalFacts) (s : AnswerSignature) → IsAmong g q.goals.items → IsAmong s g.signatures.items → AnswerBy zones (SaidOf a) (By a) s
    answer_by g s among by =
        let are = goal_facts a q of_q g among in
        let of = goal_signature a g are s by in
        let is = goal_owner a q of_q g are among in
        let w = answer_whole a zones of_zones q of_q g s among by in
        let same_rrsig = closer_rrsig g s among by in
        record {
          by = λ off. by_signer a zones of_zones g.number are.rrset of.number s.signature of.its are.numbered (signer_above a zones of_zones q of_q g s among by off);
          closed = w.closed;
          sound = w.sound;
          there = λ c some.
              let is_open = subst (IsCloserOf a are.rrset of.its.rrsig) some same_rrsig in
              let fewer = at_or_below_length a.name of.its.rrsig.signer is_open.0.above in
              let number = of.its.signer in
              zone_there s.signature.signer (omega (arith, fewer, number));
          covers = λ c some.
              let is_open = subst (IsCloserOf a are.rrset of.its.rrsig) some same_rrsig in
              let n : ℕ = length of.its.rrsig.signer in
              let within = at_or_below_length a.name of.its.rrsig.signer is_open.0.above in
              subst (λ (m : ℕ). SaysRrsets (IsRrsetBy zones (SaidOf a) (By a) m) c.covers.items) (sym of.its.signer)
              (facts_fit n within (closers.IsCover a n of.its.rrsig.labels) c.covers.items is_open.1.covers
              (λ number cover. absent_denial a (rightmost a.name n) cover.chain (rightmost a.name (of.its.rrsig.labels + 1)) number cover.covers));
          other = λ on c some.
              absurd (of.its.faults.signer.0 on (subst (IsCloserOf a are.rrset of.its.rrsig) some same_rrsig).0.may);
        }

    -- what the laws of signers ask of a question
    pub question_by : IsQuestionBy zones (SaidOf a) (By a) q
    question_by =
        let labels : length a.name ≡ q.labels = sym of_q.labels in
        record {
          answers = answer_by;
          speakers = λ z among. subst (λ (n : ℕ). SaysSpeaker (IsOwnBy zones (SaidOf a) (By a) z.labels) (IsRrsetBy zones (SaidOf a) (By a) z.labels) n z) labels (speaker_by z among);
          speaks = λ z among. zone_there z.labels (all_among (AreSpeakerFacts a) q.speakers.items z of_q.speakers.each among).within;
          parents = λ z among. subst (λ (n : ℕ). SaysParent (IsOwnBy zones (SaidOf a) (By a) z.labels) (IsRrsetBy zones (SaidOf a) (By a) z.labels) n z) labels (parent_by z among);
          leads = λ z among. zone_there z.labels (parent_within a zones of_zones q of_q z among);
        }
