-- What is told of a question, of its answers and of its denials is so.
use Rattle.std.proofs.Common.{◌≡◌, ◌⊎◌, ◌+◌, ◌<◌, ℕ, zero, suc, true, false, inl, inr, ⊎_elim, List, [], ◌∷◌, ◌++◌, Option, Some, None, map, flat_map, length, refl, sym, ap, ◌∙◌, subst, arith}
use Rattle.std.proofs.lemmas.Bool.{false≢true}
use Rattle.std.specs.List.{enumerate_from, range_with_len}
use Rattle.std.specs.List.Sorted.{IsStrictlySortedBy}
use Rattle.std.specs.Ordering.{nat_cmp}
use Rattle.std.specs.Prelude.{Contains}
use Rattle.dnsv_names.specs.Name.{Labels, SameName, rightmost}
use Rattle.dnsv_names.specs.Order.{IsBelow}
use Rattle.dnsv_names.specs.Tree.AncestorLaws.{rightmost_below, rightmost_length, rightmost_same}
use Rattle.dnsv_names.specs.Tree.TreeLaws.{at_or_below_length}
use Rattle.dnsv_records.specs.Rrsig.{IsRrsig}
use Rattle.dnsv_records.specs.declared.nsec3.Nsec3.{Nsec3}
use Rattle.dnsv_records.proofs.OneRecord.{one_rrsig}
use Rattle.dnsv_zones.specs.zones.TypeNumbers.{dname}
use Rattle.dnsv_canonical.specs.Index.{numbers_at}
use Rattle.dnsv_canonical.specs.Rrsets.{IsNumbered, ReceivedRrset}
use Rattle.dnsv_canonical.specs.declared.number.SignatureNumber.{SignatureNumber}
use Rattle.dnsv_canonical.proofs.OrderLemmas.{each_of}
use Rattle.dnsv_denial.specs.gathering.EvidenceWords.{Chain}
use Rattle.dnsv_denial.specs.gathering.EvidenceWords.Chain.{ByNsec, ByNsec3}
use Rattle.dnsv_faults.specs.KnownZones.{IsKnownZone}
use Rattle.dnsv_faults.specs.Signatures.{IsSignatureAt}
use Rattle.dnsv_zone_faults.proofs.lemmas.zones.ClosedLemmas.{contains_of, not_true}
use Rattle.dnsv_zone_faults.proofs.lemmas.zones.TrustLemmas.{number_of, zip_left}
use Rattle.dnsv_canonical.proofs.NumberLemmas.{each_number, IsOneAt, one_numbered}
use Rattle.dnsv_gaps.specs.Asking.{Asking}
use Rattle.dnsv_gaps.specs.Sources.{HasRecords}
use Rattle.dnsv_gaps.specs.Speakers.{AreSourceFacts}
use Rattle.dnsv_gaps.specs.Unusable.{AreUnusable, IsWhy}
use Rattle.dnsv_gaps.specs.Unusable.IsWhy.{iterations, unusable}
use Rattle.dnsv_gaps.specs.questions.Closers.{AreCloserFacts, IsCloserOf, IsOpen}
use Rattle.dnsv_gaps.specs.questions.Cuts.{HasGoal}
use Rattle.dnsv_gaps.specs.questions.Dnames.{dname_at, lowest}
use Rattle.dnsv_gaps.specs.questions.Questions.{AreQuestionFacts}
use Rattle.dnsv_lines.specs.declared.line.Line.{Line}
use Rattle.dnsv_lines.specs.declared.line.fault.denial.WhyNsec3.{WhyNsec3}
use Rattle.dnsv_lines.specs.declared.line.fault.signature.ShownSignature.{ShownSignature}
use Rattle.dnsv_mending.specs.Mend.{is_none}
use Rattle.dnsv_mending.specs.Ways.{IsAmong}
use Rattle.dnsv_reasons.specs.Lines.{IsSaidLine}
use Rattle.dnsv_trust_reasons.specs.Places.{shown_of}
use Rattle.dnsv_remedies.specs.declared.facts.answer.AnswerSignature.{AnswerSignature}
use Rattle.dnsv_remedies.specs.declared.facts.answer.CloserFacts.{CloserFacts}
use Rattle.dnsv_remedies.specs.declared.facts.answer.GoalFacts.{GoalFacts}
use Rattle.dnsv_remedies.specs.declared.facts.denial.SourceFacts.{SourceFacts}
use Rattle.dnsv_remedies.specs.declared.facts.denial.SpeakerFacts.{SpeakerFacts}
use Rattle.dnsv_remedies.specs.declared.facts.name.UnusableFacts.{UnusableFacts}
use Rattle.dnsv_remedies.specs.declared.facts.question.DnameFacts.{DnameFacts}
use Rattle.dnsv_remedies.specs.declared.facts.question.QuestionFacts.{QuestionFacts}
use Rattle.dnsv_remedies.specs.declared.said.Said.TheVariants as said
use Rattle.dnsv_true_reasons.specs.truth.Question.{HasDenial, IsSilent, IsTrueOfCloser, ShouldSpeak}
use Rattle.dnsv_true_reasons.specs.truth.Reasons.{IsReasonTrue}
use Rattle.dnsv_true_reasons.specs.truth.Sources.{IsNsec3True}
use Rattle.dnsv_true_reasons.proofs.truths.questions.CutTruth.{range_has}
use Rattle.dnsv_true_reasons.proofs.truths.questions.FactsThere.{answer_there, contains_map, speaker_there}
use Rattle.dnsv_true_reasons.proofs.truths.questions.KnownMoves.{first_most, known_moves}
use Rattle.dnsv_true_reasons.proofs.truths.LineTruth.{IsLineTrue}
use Rattle.dnsv_true_reasons.proofs.truths.zones.RrsetTruth.{nothing_in}

-- ---- NSEC3 records that can't be used

why_true : (rrset : ReceivedRrset) (fields : Nsec3) (w : WhyNsec3) → IsWhy rrset fields w → IsNsec3True rrset fields w
why_true rrset fields w (iterations more) = (more, refl)
why_true rrset fields w (unusable few is) = is

pub nsec3_true : (a : Asking) (zone : Labels) (us : List UnusableFacts) → AreUnusable a zone us → (u : UnusableFacts) → IsAmong u us
    → (l : Line) → IsSaidLine a (said.Nsec3 u.why u.number) l → IsLineTrue (IsReasonTrue a) l
nsec3_true a zone us are u among l of =
    let its = (are.members u.number u.why).0 (contains_of u us among) in
    let same : of.0 ≡ its.rrset = one_numbered a.basis.rrsets u.number.rrset of.0 its.rrset of.1 its.at.is_rrset in
    subst (IsLineTrue (IsReasonTrue a)) (sym of.2) (record {
      rrset = its.rrset;
      rdata = its.rdata;
      at = its.at;
      rtype = its.rtype;
      owner = ap (λ (r : ReceivedRrset). r.owner) same;
      fields = its.fields;
      read = its.read;
      is = why_true its.rrset its.fields u.why its.is_why;
    })

-- ---- a question

among_flat : {X Y : Type 0} (f : X → List Y) (xs : List X) (y : Y) → IsAmong y (flat_map f xs) → (x : X) × Contains xs x × IsAmong y (f x)
among_flat f [] y among = absurd among
among_flat f (x ∷ xs) y among = ⊎_elim
    (λ (here : IsAmong y (f x)). (x, (0, omega arith, refl), here))
    (λ (later : IsAmong y (flat_map f xs)).
    let rest = among_flat f xs y later in (rest.0, (suc rest.1.0, let within = rest.1.1 in omega (arith, within), rest.1.2), rest.2))
    (among_append (f x) (flat_map f xs) y among)
  where
    among_append : {Z : Type 0} (zs ws : List Z) (z : Z) → IsAmong z (zs ++ ws) → IsAmong z zs ⊎ IsAmong z ws
    among_append [] ws z there = inr there
    among_append (v ∷ zs) ws z (inl same) = inl (inl same)
    among_append (v ∷ zs) ws z (inr there) = ⊎_elim (λ (first : IsAmong z zs). inl (inr first)) (λ (second : IsAmong z ws). inr second)
        (among_append zs ws z there)

-- a DNAME RRset that is told
pub record DnameThere (a : Asking) (d : DnameFacts) : Type 0 where
  pub above : d.labels < length a.name
  pub one : IsOneAt a.basis.rrsets (rightmost a.name d.labels) dname d.rrset

lowest_there : (a : Asking) (labels : ℕ) (numbers : List ℕ) (d : DnameFacts) → labels < length a.name
    → ((k : ℕ) → Contains numbers k → IsOneAt a.basis.rrsets (rightmost a.name labels) dname k) → IsAmong d (lowest labels numbers)
    → DnameThere a d
lowest_there a labels [] d above each among = absurd among
lowest_there a labels (k ∷ numbers) d above each (inl same) =
    subst (DnameThere a) (sym same) (record { above = above; one = each k (0, omega arith, refl) })
lowest_there a labels (k ∷ numbers) d above each (inr never) = absurd never

at_there : (a : Asking) (labels : ℕ) (d : DnameFacts) → labels < length a.name → IsAmong d (dname_at a.basis.rrsets a.name labels)
    → DnameThere a d
unfolding dname_at
at_there a labels d above among =
    let zone = rightmost a.name labels in
    lowest_there a labels (numbers_at a.basis.rrsets zone dname) d above
    (λ k there. each_of (IsOneAt a.basis.rrsets zone dname) (numbers_at a.basis.rrsets zone dname) k
    (each_number a.basis.rrsets zone dname) there) among

module _ (a : Asking) (q : QuestionFacts) (are : AreQuestionFacts a q) where
  dname_there : (d : DnameFacts) → IsAmong d q.dnames.items → DnameThere a d
  dname_there d among =
      let from = among_flat (dname_at a.basis.rrsets a.name) (range_with_len 0 (length a.name)) d (subst (IsAmong d) are.dnames among) in
      let range = range_has 0 (length a.name) from.0 from.1 in
      let high = range.1 in at_there a from.0 d (omega (arith, high)) from.2

  pub dname_true : (d : DnameFacts) → IsAmong d q.dnames.items → (l : Line) → IsSaidLine a (said.Dname d) l → IsLineTrue (IsReasonTrue a) l
  dname_true d among l of =
      let there = dname_there d among in
      let name_is = of.1.is in
      subst (IsLineTrue (IsReasonTrue a)) (sym of.2) (
        there.one.rrset,
        there.one.is_rrset,
        subst (λ (x : Labels). SameName there.one.rrset.owner x) (sym name_is) there.one.owner,
        there.one.same_type,
        subst (λ (x : Labels). IsBelow a.name x) (sym name_is) (rightmost_below a.name d.labels there.above),
      )

  -- ---- answers

  pub closer_is : (g : GoalFacts) (s : AnswerSignature) (goal : IsAmong g q.goals.items) (by : IsAmong s g.signatures.items)
      (c : CloserFacts) → s.closer ≡ Some c
      → IsOpen a (answer_there a q are g s goal by).goal.are.rrset (answer_there a q are g s goal by).its.rrsig
      × AreCloserFacts a (answer_there a q are g s goal by).its.rrsig c
  closer_is g s goal by c same = subst (λ (each : Option CloserFacts). IsCloserOf a (answer_there a q are g s goal by).goal.are.rrset
      (answer_there a q are g s goal by).its.rrsig each) same (answer_there a q are g s goal by).closer

  pub closer_true : (g : GoalFacts) (s : AnswerSignature) (c : CloserFacts) → IsAmong g q.goals.items → IsAmong s g.signatures.items
      → s.closer ≡ Some c
      → (l : Line) → IsSaidLine a (said.NoCloser s.signature.number c.name) l → IsLineTrue (IsReasonTrue a) l
  closer_true g s c goal by same l of =
      let there = answer_there a q are g s goal by in
      let its = there.its in
      let rrset = there.goal.are.rrset in
      let closer = closer_is g s goal by c same in
      let is = of.3 in
      let number = its.number in
      let numbered : IsNumbered a.basis.rrsets s.signature.number.rrset rrset =
      subst (λ (n : SignatureNumber). IsNumbered a.basis.rrsets n.rrset rrset) (sym number) there.goal.are.numbered in
      let at : IsSignatureAt rrset s.signature.number.signature its.rrsig =
      subst (λ (n : SignatureNumber). IsSignatureAt rrset n.signature its.rrsig) (sym number) its.its in
      let one : is.rrset ≡ rrset = one_numbered a.basis.rrsets s.signature.number.rrset is.rrset rrset is.numbered numbered in
      let rdata : is.rdata ≡ at.rdata =
      one_numbered rrset.signatures s.signature.number.signature is.rdata at.rdata
      (subst (λ (r : ReceivedRrset). IsNumbered r.signatures s.signature.number.signature is.rdata) one is.is_signature) at.numbered in
      let rrsig : is.rrsig ≡ its.rrsig = one_rrsig at.rdata is.rrsig its.rrsig
      (subst (λ (octets : List ℕ). IsRrsig octets is.rrsig) rdata is.read) at.is in
      let shown : of.1 ≡ shown_of s.signature.number rrset its.rrsig = is.is ∙ (λ i. shown_of s.signature.number (one i) (rrsig i)) in
      subst (IsLineTrue (IsReasonTrue a)) (sym of.4)
      (subst (λ (each : ShownSignature). IsTrueOfCloser a (record { signature = each; name = of.0 })) (sym shown) (record {
        rrset = rrset;
        numbered = numbered;
        rrsig = its.rrsig;
        its = at;
        shown = refl;
        is_open = closer.0;
        name = of.2.is ∙ ap (rightmost a.name) closer.1.name;
      }))

  -- ---- denials

  pub no_goal : is_none q.goals.items ≡ true → ¬ HasGoal a
  no_goal none has =
      let at = number_of a.basis.rrsets has.0 has.1 in
      empty q.goals.items none at.0 ((are.goals.members at.0).1 (has.0, at.1, has.2))
    where
      empty : (goals : List GoalFacts) → is_none goals ≡ true → (k : ℕ) → Contains (map (λ (g : GoalFacts). g.number) goals) k → ⊥
      empty [] e k there = nothing_in k there
      empty (g ∷ goals) e k there = false≢true e

  -- a known zone is one of the speakers
  speaks : (zone : Labels) → IsKnownZone a.basis a.name a.rtype zone
      → Contains (map (λ (z : SpeakerFacts). z.labels) q.speakers.items) (length zone)
  speaks zone known =
      (are.speakers.known (length zone) (at_or_below_length a.name zone known.above)).1
      (known_moves a.basis a.name a.rtype zone (rightmost a.name (length zone)) (sym (rightmost_same a.name zone known.above)) known)

  pub known_there : (z : SpeakerFacts) → IsAmong z q.speakers.items → IsKnownZone a.basis a.name a.rtype (rightmost a.name z.labels)
  known_there z among =
      (are.speakers.known z.labels (speaker_there a q are z among).within).0
      (contains_map (λ (each : SpeakerFacts). each.labels) q.speakers.items z among)

  pub no_zone : q.speakers.items ≡ [] → (zone : Labels) → ¬ IsKnownZone a.basis a.name a.rtype zone
  no_zone none zone known =
      nothing_in (length zone) (subst (λ (each : List SpeakerFacts). Contains (map (λ (z : SpeakerFacts). z.labels) each) (length zone))
      none (speaks zone known))

  pub should_speak : (z : SpeakerFacts) (others : List SpeakerFacts) → q.speakers.items ≡ z ∷ others
      → ShouldSpeak a (rightmost a.name z.labels)
  should_speak z others is =
      let among : IsAmong z q.speakers.items = subst (IsAmong z) (sym is) (inl refl) in
      let count = rightmost_length a.name z.labels (speaker_there a q are z among).within in
      record {
        known = known_there z among;
        most = λ other known.
            let there = subst (λ (each : List SpeakerFacts). Contains (map (λ (x : SpeakerFacts). x.labels) each) (length other)) is
            (speaks other known) in
            let falling = subst (λ (each : List SpeakerFacts). IsStrictlySortedBy (λ one other_one. nat_cmp other_one one)
            (map (λ (x : SpeakerFacts). x.labels) each))
            is are.speakers.falling in
            let fewer = first_most z.labels (map (λ (x : SpeakerFacts). x.labels) others) (length other) falling there in
            omega (arith, fewer, count);
      }

  pub no_denials : (z : SpeakerFacts) → IsAmong z q.speakers.items → z.has_denials ≡ false → ¬ HasDenial a (rightmost a.name z.labels)
  no_denials z among none has = not_true z.has_denials none ((speaker_there a q are z among).denials.1 has)

  -- a zone with a source has denials
  pub source_denies : (z : SpeakerFacts) → IsAmong z q.speakers.items → z.has_denials ≡ false → is_none z.sources.items ≡ false → ⊥
  source_denies z among none some =
      let its = speaker_there a q are z among in
      let s = first_of z.sources.items some in
      let one = zip_left (AreSourceFacts a (rightmost a.name z.labels)) (enumerate_from 0 its.chains) z.sources.items s.0 its.sources
      (contains_of s.0 z.sources.items s.1) in
      let chain = in_numbered 0 its.chains one.0 one.1 in
      no_denials z among none (denial_of one.0.1 ((its.are_sources.members one.0.1).0 chain))
    where
      first_of : (ss : List SourceFacts) → is_none ss ≡ false → (s : SourceFacts) × IsAmong s ss
      first_of [] e = absurd (false≢true (sym e))
      first_of (s ∷ ss) e = (s, inl refl)

      in_numbered : (n : ℕ) (chains : List Chain) (p : ℕ × Chain) → Contains (enumerate_from n chains) p → Contains chains p.1
      in_numbered n [] p there = absurd (nothing_in p there)
      in_numbered n (c ∷ chains) p (zero, within, is) = (0, omega arith, ap (λ (x : ℕ × Chain). x.1) is)
      in_numbered n (c ∷ chains) p (suc i, within, is) =
          let rest = in_numbered (n + 1) chains p (i, omega (arith, within), is) in
          (suc rest.0, let inside = rest.1 in omega (arith, inside), rest.2)

      denial_of : (chain : Chain) → HasRecords a (rightmost a.name z.labels) chain → HasDenial a (rightmost a.name z.labels)
      denial_of ByNsec has = (has.0.rrset, has.2.denial)
      denial_of (ByNsec3 p) has = (has.0.rrset, has.2.denial)

  pub missing_none : is_none q.goals.items ≡ true → q.speakers.items ≡ [] → (l : Line) → IsSaidLine a (said.AnswerMissing None) l
      → IsLineTrue (IsReasonTrue a) l
  missing_none unanswered none l of =
      subst (IsLineTrue (IsReasonTrue a)) (sym of.2) ((refl, refl), no_goal unanswered, subst (IsSilent a) (sym of.1) (no_zone none))

  pub missing_some : is_none q.goals.items ≡ true → (z : SpeakerFacts) (others : List SpeakerFacts) → q.speakers.items ≡ z ∷ others
      → z.has_denials ≡ false
      → (l : Line) → IsSaidLine a (said.AnswerMissing (Some z.labels)) l → IsLineTrue (IsReasonTrue a) l
  missing_some unanswered z others is none l of =
      let told = of.1 in
      let zone : of.0 ≡ Some (rightmost a.name z.labels) = told.2 ∙ ap Some told.1.is in
      let among : IsAmong z q.speakers.items = subst (IsAmong z) (sym is) (inl refl) in
      subst (IsLineTrue (IsReasonTrue a)) (sym of.2)
      ((refl, refl), no_goal unanswered, subst (IsSilent a) (sym zone) (should_speak z others is, no_denials z among none))
