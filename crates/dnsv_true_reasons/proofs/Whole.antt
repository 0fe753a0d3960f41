-- The facts of a question that are found are whole and in place.
use Rattle.std.proofs.Common.{◌≡◌, ◌⊎◌, inl, inr, ◌+◌, ◌-◌, ◌≤◌, ℕ, true, false, List, Some, length, refl, sym, ap, ◌∙◌, subst, arith}
use Rattle.std.specs.Prelude.{slice_get}
use Rattle.dnsv_names.specs.Name.{Labels, IsAtOrBelow, SameName, rightmost}
use Rattle.dnsv_names.specs.Tree.{wildcard_of}
use Rattle.dnsv_names.specs.Tree.AncestorLaws.{rightmost_same}
use Rattle.dnsv_names.specs.Tree.TreeLaws.{at_or_below_length, at_or_below_respects}
use Rattle.dnsv_records.specs.declared.rrsig.Rrsig.{Rrsig}
use Rattle.dnsv_canonical.specs.Index.{numbers_at}
use Rattle.dnsv_canonical.specs.Rrsets.{IsNumbered, ReceivedRrset}
use Rattle.dnsv_canonical.specs.declared.number.RecordNumber.{RecordNumber}
use Rattle.dnsv_canonical.specs.declared.number.SignatureNumber.{SignatureNumber}
use Rattle.dnsv_chain.specs.Trusted as chain
use Rattle.dnsv_chain.proofs.TrustedLemmas.{trusted_among, trusted_rtype}
use Rattle.dnsv_denial.specs.gathering.EvidenceWords.{Chain}
use Rattle.dnsv_chain.proofs.NumberedLemmas.{numbers_are}
use Rattle.dnsv_mending.specs.Ways.{IsAmong}
use Rattle.dnsv_mending.specs.declared.facts.keys.DnskeyFacts.{DnskeyFacts}
use Rattle.dnsv_mending.specs.declared.facts.signature.RrsetFacts.{RrsetFacts}
use Rattle.dnsv_mending.specs.declared.facts.zone.ZoneFacts.{ZoneFacts}
use Rattle.dnsv_remedies.specs.InPlace.{IsQuestionInPlace}
use Rattle.dnsv_remedies.specs.Reasons.{AreAtOf, AreOf, IsCaseOf, IsCutCaseOf, IsTrusted, IsWhole, IsWholeQuestion, IsWildcardOf}
use Rattle.dnsv_remedies.specs.declared.facts.answer.AnswerSignature.{AnswerSignature}
use Rattle.dnsv_remedies.specs.declared.facts.answer.CloserFacts.{CloserFacts}
use Rattle.dnsv_remedies.specs.declared.facts.answer.GoalFacts.{GoalFacts}
use Rattle.dnsv_remedies.specs.declared.facts.cut.CutCase.{CutCase}
use Rattle.dnsv_remedies.specs.declared.facts.cut.CutCase.TheVariants as cut
use Rattle.dnsv_remedies.specs.declared.facts.cut.CutFacts.{CutFacts}
use Rattle.dnsv_remedies.specs.declared.facts.cut.CutSource.{CutSource}
use Rattle.dnsv_remedies.specs.declared.facts.cut.ParentFacts.{ParentFacts}
use Rattle.dnsv_remedies.specs.declared.facts.denial.RecordsAt.{RecordsAt}
use Rattle.dnsv_remedies.specs.declared.facts.denial.RecordsAt.TheVariants as records
use Rattle.dnsv_remedies.specs.declared.facts.denial.SourceCase.{SourceCase}
use Rattle.dnsv_remedies.specs.declared.facts.denial.SourceCase.TheVariants as case
use Rattle.dnsv_remedies.specs.declared.facts.denial.SourceFacts.{SourceFacts}
use Rattle.dnsv_remedies.specs.declared.facts.denial.SpeakerFacts.{SpeakerFacts}
use Rattle.dnsv_remedies.specs.declared.facts.denial.WildcardFacts.{WildcardFacts}
use Rattle.dnsv_remedies.specs.declared.facts.denial.WildcardFacts.TheVariants as wildcard
use Rattle.dnsv_remedies.specs.declared.facts.question.QuestionFacts.{QuestionFacts}
use Rattle.dnsv_zone_faults.specs.Dnskeys.{AreDnskeyFacts}
use Rattle.dnsv_faults.specs.Signatures.{IsSignatureAt}
use Rattle.dnsv_zone_faults.specs.Zones.{AreZoneFacts}
use Rattle.dnsv_zone_faults.proofs.lemmas.zones.ClosedLemmas.{among_of, closed_signature, contains_of}
use Rattle.dnsv_zone_faults.proofs.lemmas.zones.InPlaceLemmas.{at_or_above, signer_there}
use Rattle.dnsv_zone_faults.proofs.lemmas.zones.TrustLemmas.{number_of, zip_right}
use Rattle.dnsv_canonical.proofs.NumberLemmas.{one_numbered}
use Rattle.dnsv_gaps.specs.Asking.{Asking}
use Rattle.dnsv_gaps.specs.Cases.{AreRecordsAt, AreShowing, AreWildcardFacts, IsBestCover, IsRuledOut, IsSourceCase}
use Rattle.dnsv_gaps.specs.Cases.AreShowing.{needless, by_records}
use Rattle.dnsv_gaps.specs.Denials.{IsDenialNumber}
use Rattle.dnsv_gaps.specs.Parts.{AreFactsOf}
use Rattle.dnsv_gaps.specs.Sources.{source_said}
use Rattle.dnsv_gaps.specs.Speakers.{AreSpeakerFacts}
use Rattle.dnsv_gaps.specs.questions.Closers as closers
use Rattle.dnsv_gaps.specs.questions.Closers.{IsCloserOf}
use Rattle.dnsv_gaps.specs.questions.Cuts.{AreParentFacts, HasOptOut, IsCutCase}
use Rattle.dnsv_gaps.specs.questions.Goals.{AreGoalFacts, HasItsCloser}
use Rattle.dnsv_gaps.specs.questions.Questions.{AreQuestionFacts}
use Rattle.dnsv_true_reasons.proofs.Parts.{any_among, facts_of, one_signature, secured_as}
use Rattle.dnsv_true_reasons.proofs.QuestionNames.{cut_of, cut_source_of, goal_signature, source_of}
use Rattle.dnsv_true_reasons.proofs.Members.{mapped_among}
use Rattle.dnsv_true_reasons.proofs.telling.Says.{all_among}
use Rattle.dnsv_true_reasons.proofs.Words.{absent_denial, empty_denial, encloser_denial, opted_denial, types_denial}

-- ---- what may answer

-- the RRset of the facts is one that may answer, so it has the name
pub goal_owner : (a : Asking) (q : QuestionFacts) → AreQuestionFacts a q → (g : GoalFacts) (are : AreGoalFacts a g) → IsAmong g q.goals.items
    → SameName are.rrset.owner a.name × ((are.rrset.rtype ≡ a.rtype) ⊎ (are.rrset.rtype ≡ 5))
goal_owner a q of_q g are among =
    let such = (of_q.goals.members g.number).0 (contains_of g.number _ (mapped_among (λ (each : GoalFacts). each.number) q.goals.items g among)) in
    let same = one_numbered a.basis.rrsets g.number such.0 are.rrset such.1 are.numbered in
    subst (λ (r : ReceivedRrset). SameName r.owner a.name × ((r.rtype ≡ a.rtype) ⊎ (r.rtype ≡ 5))) same (such.2.owner, such.2.its_type)

pub goal_facts : (a : Asking) (q : QuestionFacts) → AreQuestionFacts a q → (g : GoalFacts) → IsAmong g q.goals.items → AreGoalFacts a g
goal_facts a q of_q g among = all_among (AreGoalFacts a) q.goals.items g of_q.goals.each among

module _ (a : Asking) (zones : List ZoneFacts) (of_zones : AreZoneFacts a.basis a.name a.rtype zones) where
  -- a signature of what may answer: its signer, where it may be the zone, is at or above the name
  pub signer_above : (q : QuestionFacts) (of_q : AreQuestionFacts a q) (g : GoalFacts) (s : AnswerSignature) (among : IsAmong g q.goals.items) (by : IsAmong s g.signatures.items)
      → s.signature.faults.signer ≡ false → IsAtOrBelow a.name (goal_signature a g (goal_facts a q of_q g among) s by).its.rrsig.signer
  signer_above q of_q g s among by off =
      let are = goal_facts a q of_q g among in
      let of = goal_signature a g are s by in
      let owner = (goal_owner a q of_q g are among).0 in
      at_or_below_respects are.rrset.owner a.name of.its.rrsig.signer of.its.rrsig.signer owner refl
      (at_or_above a.basis a.name a.rtype zones of_zones g.number are.rrset of.number s.signature of.its off)

  -- ---- trusted zones

  -- the zone of a DNSKEY RRset that is trusted is trusted
  pub trusted_zone : (n : ℕ) (z : ZoneFacts) (k : ℕ) (set : ReceivedRrset) → slice_get zones n ≡ Some z → IsNumbered a.basis.rrsets k set
      → SameName set.owner (rightmost a.name n) → set.rtype ≡ 48 → ((r : DnskeyFacts) → AreDnskeyFacts a.basis (rightmost a.name n) k r → r.is_trusted ≡ true)
      → IsTrusted zones n
  trusted_zone n z k set at numbered owner rtype each =
      let zone : Labels = rightmost a.name n in
      let numbers = numbers_at a.basis.rrsets zone 48 in
      let listed = (numbers_are a.basis.rrsets zone 48 numbers refl).all k (record { rrset = set; is_rrset = numbered; owner = owner; same_type = rtype }) in
      let one = zip_right (AreDnskeyFacts a.basis zone) numbers z.dnskeys.items k (of_zones.each n z at).dnskeys listed in
      record {
        z = z;
        is = at;
        trusted = any_among (λ (r : DnskeyFacts). r.is_trusted) z.dnskeys.items one.0 (among_of one.0 z.dnskeys.items one.1) (each one.0 one.2);
      }

  -- ---- answers

  module _ (q : QuestionFacts) (of_q : AreQuestionFacts a q) where
    pub answer_sound : (g : GoalFacts) (s : AnswerSignature) → IsAmong g q.goals.items → IsAmong s g.signatures.items → s.signature.is_signed ≡ true
        → IsTrusted zones s.signature.signer
    answer_sound g s among by signed =
        let are = goal_facts a q of_q g among in
        let of = goal_signature a g are s by in
        let owner = (goal_owner a q of_q g are among).0 in
        let good = secured_as a.basis g.number of.number are.rrset of.its.rrsig are.numbered of.its.its (of.its.signed.0 signed) in
        let admissible = good.good.admissible in
        let signer : Labels = of.its.rrsig.signer in
        let above : IsAtOrBelow a.name signer = at_or_below_respects are.rrset.owner a.name signer signer owner refl admissible.signer.above in
        let fewer = at_or_below_length a.name signer above in
        let number = of.its.signer in
        let count = of_zones.count in
        let there = signer_there a.basis a.name a.rtype zones of_zones g.number are.rrset of.number s.signature of.its above (length zones)
        (omega (arith, fewer, number, count)) in
        let zone : Labels = rightmost a.name s.signature.signer in
        let same : SameName signer zone = subst (λ (m : ℕ). SameName signer (rightmost a.name m)) (sym number) (sym (rightmost_same a.name signer above)) in
        let set_owner : SameName good.set.owner zone = subst (λ (o : Labels). SameName o zone) good.stands.owner (admissible.zone_key.owner ∙ same) in
        let listed = number_of a.basis.rrsets good.set (trusted_among good.trusted) in
        trusted_zone s.signature.signer there.z listed.0 good.set there.is listed.1 set_owner (trusted_rtype good.trusted)
        (λ r its. its.trusted.1 (subst (λ (x : ReceivedRrset). chain.IsTrusted a.basis.meaning a.basis.moment a.basis.rrsets a.basis.anchors x) (one_numbered a.basis.rrsets listed.0 good.set its.set listed.1 its.numbered) good.trusted))

    pub closer_of : (g : GoalFacts) (s : AnswerSignature) (c : CloserFacts) → IsAmong g q.goals.items → IsAmong s g.signatures.items → s.closer ≡ Some c
        → AreOf s.signature.signer c.covers.items
    closer_of g s c among by is =
        let are = goal_facts a q of_q g among in
        let of = goal_signature a g are s by in
        let has = all_among (HasItsCloser a are.rrset) g.signatures.items s are.closers by in
        let open_by : IsCloserOf a are.rrset has.rrsig (Some c) = subst (IsCloserOf a are.rrset has.rrsig) is has.is in
        let at : IsSignatureAt are.rrset of.number has.rrsig = subst (λ (m : ℕ). IsSignatureAt are.rrset m has.rrsig) (ap (λ (m : SignatureNumber). m.signature) of.its.number) has.its in
        let one = one_signature are.rrset of.number of.its.rrsig has.rrsig of.its.its at in
        let within = at_or_below_length a.name has.rrsig.signer open_by.0.above in
        let n : ℕ = length has.rrsig.signer in
        let same : s.signature.signer ≡ n = of.its.signer ∙ ap (λ (x : Rrsig). length x.signer) one in
        subst (λ (m : ℕ). AreOf m c.covers.items) (sym same)
        (facts_of a n within (closers.IsCover a n has.rrsig.labels) c.covers.items open_by.1.covers
        (λ number cover. absent_denial a (rightmost a.name n) cover.chain (rightmost a.name (has.rrsig.labels + 1)) number cover.covers))

    pub answer_whole : (g : GoalFacts) (s : AnswerSignature) → IsAmong g q.goals.items → IsAmong s g.signatures.items → IsWhole zones s
    answer_whole g s among by =
        let are = goal_facts a q of_q g among in
        let of = goal_signature a g are s by in
        record {
          closed = closed_signature a.basis a.name a.rtype zones of_zones g.number are.rrset are.numbered of.number s.signature of.its
              (signer_above q of_q g s among by);
          sound = answer_sound g s among by;
          closer = λ c is. closer_of g s c among by is;
        }

    -- ---- cases

    module _ (n : ℕ) (within : n ≤ length a.name) (chain : Chain) where
      of_encloser : (name : Labels) (facts : List RrsetFacts) → AreFactsOf a.basis ((source_said a (rightmost a.name n) chain).Encloser name) facts → AreOf n facts
      of_encloser name facts are = facts_of a n within ((source_said a (rightmost a.name n) chain).Encloser name) facts are
          (λ number says. encloser_denial a (rightmost a.name n) chain name number says)

      of_types : (name : Labels) (Says : (ℕ → Type 0) → Type 0) (facts : List RrsetFacts)
          → AreFactsOf a.basis ((source_said a (rightmost a.name n) chain).TypesAt name Says) facts → AreOf n facts
      of_types name Says facts are = facts_of a n within ((source_said a (rightmost a.name n) chain).TypesAt name Says) facts are
          (λ number says. types_denial a (rightmost a.name n) chain name Says number says)

      of_opted : (name : Labels) (facts : List RrsetFacts) → AreFactsOf a.basis ((source_said a (rightmost a.name n) chain).OptedOut name) facts → AreOf n facts
      of_opted name facts are = facts_of a n within ((source_said a (rightmost a.name n) chain).OptedOut name) facts are
          (λ number says. opted_denial a (rightmost a.name n) chain name number says)

      of_empty : (name : Labels) (facts : List RrsetFacts) → AreFactsOf a.basis ((source_said a (rightmost a.name n) chain).EmptyNonTerminal name) facts → AreOf n facts
      of_empty name facts are = facts_of a n within ((source_said a (rightmost a.name n) chain).EmptyNonTerminal name) facts are
          (λ number says. empty_denial a (rightmost a.name n) chain name number says)

      cover_denial : (name : Labels) (number : RecordNumber) → IsBestCover (source_said a (rightmost a.name n) chain) name number → IsDenialNumber a (rightmost a.name n) number.rrset
      cover_denial name number (inl says) = absent_denial a (rightmost a.name n) chain name number says
      cover_denial name number (inr says) = opted_denial a (rightmost a.name n) chain name number says.1

      out_denial : (name : Labels) (number : RecordNumber) → IsRuledOut (source_said a (rightmost a.name n) chain) name number → IsDenialNumber a (rightmost a.name n) number.rrset
      out_denial name number (inl says) = absent_denial a (rightmost a.name n) chain name number says
      out_denial name number (inr (inl says)) = opted_denial a (rightmost a.name n) chain name number says
      out_denial name number (inr (inr says)) = empty_denial a (rightmost a.name n) chain name number says

      at_of : (name : Labels) (r : RecordsAt) → AreRecordsAt a.basis (source_said a (rightmost a.name n) chain) name a.rtype r → AreAtOf n r
      at_of name (records.Denying rrsets) are = of_types name _ rrsets.items are.1
      at_of name (records.Holding h) are = tt

      wildcard_of_case : (next under : Labels) (w : WildcardFacts) → AreWildcardFacts a.basis (source_said a (rightmost a.name n) chain) next under a.rtype w → IsWildcardOf n w
      wildcard_of_case next under wildcard.OptedOut are = tt
      wildcard_of_case next under (wildcard.At r) are = at_of under r are.2
      wildcard_of_case next under (wildcard.Covered rrsets) are =
          facts_of a n within (IsRuledOut (source_said a (rightmost a.name n) chain) under) rrsets.items are.2 (λ number says. out_denial under number says)

      showing_of : (name : Labels) (facts : List RrsetFacts) → AreShowing a.basis (source_said a (rightmost a.name n) chain) name facts → AreOf n facts
      showing_of name facts (needless none) r among = absurd among
      showing_of name facts (by_records needs are) r among = of_encloser name facts are r among

      case_of : (c : SourceCase) → IsSourceCase a.basis (source_said a (rightmost a.name n) chain) (rightmost a.name n) a.name a.rtype c → IsCaseOf n c
      case_of (case.At r) is = at_of a.name r is.2
      case_of (case.NonTerminal rrsets) is = of_empty a.name rrsets.items is.4
      case_of (case.Encloser e) is =
          let its = is.1 in
          let next : Labels = rightmost a.name e.next in (
            showing_of (rightmost a.name e.name) e.shown.items its.shown,
            (
              facts_of a n within (IsBestCover (source_said a (rightmost a.name n) chain) next) e.covers.items its.covers (λ number says. cover_denial next number says),
              wildcard_of_case next (wildcard_of (rightmost a.name e.name)) e.wildcard its.wildcard,
            ),
          )
      case_of c is = tt

      cut_case_of : (HasOut : Type 0) (parent name : Labels) (c : CutCase) → IsCutCase a.basis (source_said a (rightmost a.name n) chain) HasOut parent name c → IsCutCaseOf n c
      cut_case_of HasOut parent name (cut.Delegation rrsets) is = of_types name _ rrsets.items is.1
      cut_case_of HasOut parent name (cut.OptOut o) is = (of_encloser parent o.shown.items is.2, of_opted name o.covers.items is.3)
      cut_case_of HasOut parent name c is = tt

    -- ---- the question

    denial_whole : (z : SpeakerFacts) (s : SourceFacts) → IsAmong z q.speakers.items → IsAmong s z.sources.items → IsCaseOf z.labels s.case
    denial_whole z s among by =
        let are = all_among (AreSpeakerFacts a) q.speakers.items z of_q.speakers.each among in
        let of = source_of a z.labels are.chains z.sources.items s are.sources by in
        case_of z.labels are.within of.0.1 s.case of.2.its_case

    pub parent_within : (z : ParentFacts) → IsAmong z q.parents.items → z.labels ≤ length a.name
    parent_within z among =
        ((of_q.parents.members z.labels).0 (contains_of z.labels _ (mapped_among (λ (each : ParentFacts). each.labels) q.parents.items z among))).within

    cut_whole : (z : ParentFacts) (c : CutFacts) (s : CutSource) → IsAmong z q.parents.items → IsAmong c z.cuts.items → IsAmong s c.sources.items
        → IsCutCaseOf z.labels s.case
    cut_whole z c s among in_cuts by =
        let are = all_among (AreParentFacts a) q.parents.items z of_q.parents.each among in
        let of = cut_of a z are c in_cuts in
        let its = cut_source_of a z are of.0 c of.3 s by in
        cut_case_of z.labels (parent_within z among) its.0.1 (HasOptOut a (rightmost a.name z.labels) its.0.1) (rightmost a.name (of.0 - 1)) (rightmost a.name of.0)
        s.case its.2.its_case

    -- what the laws of reasons ask of a question
    pub whole_question : IsWholeQuestion zones q
    whole_question = record { answers = answer_whole; denials = denial_whole; cuts = cut_whole }

    pub question_in_place : IsQuestionInPlace zones q
    question_in_place = record {
      signers = λ g s among by off.
          let are = goal_facts a q of_q g among in
          let of = goal_signature a g are s by in
          let above = signer_above q of_q g s among by off in
          let fewer = at_or_below_length a.name of.its.rrsig.signer above in
          let number = of.its.signer in
          let count = of_zones.count in
          signer_there a.basis a.name a.rtype zones of_zones g.number are.rrset of.number s.signature of.its above (length zones) (omega (arith, fewer, number, count));
      speakers = λ z among.
          let within = (all_among (AreSpeakerFacts a) q.speakers.items z of_q.speakers.each among).within in
          let count = of_zones.count in
          omega (arith, within, count);
    }
