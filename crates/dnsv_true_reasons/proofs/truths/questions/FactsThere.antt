-- The facts of a question, one by one.
use Rattle.std.proofs.Common.{◌≡◌, ◌+◌, ◌-◌, ℕ, suc, inl, inr, List, [], ◌∷◌, Option, map, sym, ap, subst, arith}
use Rattle.std.specs.List.{enumerate_from, range_with_len}
use Rattle.std.specs.Prelude.{Contains}
use Rattle.dnsv_names.specs.Name.{Labels, rightmost}
use Rattle.dnsv_records.specs.declared.rrsig.Rrsig.{Rrsig}
use Rattle.dnsv_records.proofs.OneRecord.{one_rrsig}
use Rattle.dnsv_records.specs.Rrsig.{IsRrsig}
use Rattle.dnsv_canonical.specs.Rrsets.{ReceivedRrset}
use Rattle.dnsv_canonical.specs.declared.number.SignatureNumber.{SignatureNumber}
use Rattle.dnsv_canonical.proofs.OrderLemmas.{each_of}
use Rattle.dnsv_denial.specs.gathering.EvidenceWords.{Chain}
use Rattle.dnsv_faults.specs.KnownZones.{IsGoal}
use Rattle.dnsv_faults.specs.Signatures.{AreSignatureFacts, IsSignatureAt}
use Rattle.dnsv_zone_faults.proofs.lemmas.zones.ClosedLemmas.{contains_of}
use Rattle.dnsv_zone_faults.proofs.lemmas.zones.TrustLemmas.{zip_left}
use Rattle.dnsv_canonical.proofs.NumberLemmas.{one_numbered}
use Rattle.dnsv_gaps.specs.Asking.{Asking}
use Rattle.dnsv_gaps.specs.Cases.{IsSourceCase}
use Rattle.dnsv_gaps.specs.Sources.{AreSources, source_said}
use Rattle.dnsv_gaps.specs.Speakers.{AreSourceFacts, AreSpeakerFacts}
use Rattle.dnsv_gaps.specs.questions.Closers.{IsCloserOf}
use Rattle.dnsv_gaps.specs.questions.Cuts.{AreCutFacts, AreParentFacts, HasOptOut, IsCutCase, IsCutSource, IsNext, IsParent, lowest_cut}
use Rattle.dnsv_gaps.specs.questions.Goals.{AreGoalFacts, HasItsCloser}
use Rattle.dnsv_gaps.specs.questions.Questions.{AreQuestionFacts}
use Rattle.dnsv_mending.specs.Ways.{IsAmong}
use Rattle.dnsv_remedies.specs.declared.facts.answer.AnswerSignature.{AnswerSignature}
use Rattle.dnsv_remedies.specs.declared.facts.answer.GoalFacts.{GoalFacts}
use Rattle.dnsv_remedies.specs.declared.facts.cut.CutFacts.{CutFacts}
use Rattle.dnsv_remedies.specs.declared.facts.cut.CutSource.{CutSource}
use Rattle.dnsv_remedies.specs.declared.facts.cut.ParentFacts.{ParentFacts}
use Rattle.dnsv_remedies.specs.declared.facts.denial.SourceFacts.{SourceFacts}
use Rattle.dnsv_remedies.specs.declared.facts.denial.SpeakerFacts.{SpeakerFacts}
use Rattle.dnsv_remedies.specs.declared.facts.question.QuestionFacts.{QuestionFacts}

-- ---- lists

pub contains_map : {X Y : Type 0} (f : X → Y) (xs : List X) (x : X) → IsAmong x xs → Contains (map f xs) (f x)
contains_map f [] x among = absurd among
contains_map f (y ∷ xs) x (inl same) = (0, omega arith, ap f (sym same))
contains_map f (y ∷ xs) x (inr later) =
    let rest = contains_map f xs x later in (suc rest.0, let within = rest.1 in omega (arith, within), rest.2)

-- ---- answers

-- what is so of an RRset that may answer
pub record GoalThere (a : Asking) (g : GoalFacts) : Type 0 where
  pub are : AreGoalFacts a g
  pub goal : IsGoal a.name a.rtype are.rrset

module _ (a : Asking) (q : QuestionFacts) (are : AreQuestionFacts a q) where
  pub goal_there : (g : GoalFacts) → IsAmong g q.goals.items → GoalThere a g
  goal_there g among =
      let its = each_of (AreGoalFacts a) q.goals.items g are.goals.each (contains_of g q.goals.items among) in
      let one = (are.goals.members g.number).0 (contains_map (λ (each : GoalFacts). each.number) q.goals.items g among) in
      let same = one_numbered a.basis.rrsets g.number one.0 its.rrset one.1 its.numbered in
      record { are = its; goal = subst (IsGoal a.name a.rtype) same one.2 }

  -- ---- denials

  pub speaker_there : (z : SpeakerFacts) → IsAmong z q.speakers.items → AreSpeakerFacts a z
  speaker_there z among = each_of (AreSpeakerFacts a) q.speakers.items z are.speakers.each (contains_of z q.speakers.items among)

-- a source with what it says
pub record SourceThere (a : Asking) (zone : Labels) (s : SourceFacts) : Type 0 where
  pub chain : Chain
  pub place : ℕ
  pub its_case : IsSourceCase a.basis (source_said a zone chain) zone a.name a.rtype s.case

pub source_there : (a : Asking) (z : SpeakerFacts) → AreSpeakerFacts a z → (s : SourceFacts) → IsAmong s z.sources.items
    → SourceThere a (rightmost a.name z.labels) s
source_there a z are s among =
    let one = zip_left (AreSourceFacts a (rightmost a.name z.labels)) (enumerate_from 0 are.chains) z.sources.items s are.sources
    (contains_of s z.sources.items among) in
    record { chain = one.0.1; place = one.0.0; its_case = one.2.its_case }

-- ---- unsigned delegations

-- a known zone with an anchor at or above it
pub record ParentThere (a : Asking) (z : ParentFacts) : Type 0 where
  pub are : AreParentFacts a z
  pub is : IsParent a z.labels

pub parent_there : (a : Asking) (q : QuestionFacts) → AreQuestionFacts a q → (z : ParentFacts) → IsAmong z q.parents.items → ParentThere a z
parent_there a q are z among = record {
  are = each_of (AreParentFacts a) q.parents.items z are.parents.each (contains_of z q.parents.items among);
  is = (are.parents.members z.labels).0 (contains_map (λ (each : ParentFacts). each.labels) q.parents.items z among);
}

-- a name below it
pub record CutThere (a : Asking) (z : ParentFacts) (c : CutFacts) : Type 0 where
  pub next : Option ℕ
  pub next_is : IsNext a z.labels next
  pub chains : List Chain
  pub are_sources : AreSources a (rightmost a.name z.labels) chains
  pub labels : ℕ
  pub listed : Contains (range_with_len (z.labels + 1) (lowest_cut a - z.labels)) labels
  pub are : AreCutFacts a z.labels next chains labels c

pub cut_there : (a : Asking) (z : ParentFacts) → AreParentFacts a z → (c : CutFacts) → IsAmong c z.cuts.items → CutThere a z c
cut_there a z are c among =
    let cuts = are.cuts in
    let one = zip_left (AreCutFacts a z.labels cuts.next cuts.chains) (range_with_len (z.labels + 1) (lowest_cut a - z.labels))
    z.cuts.items c cuts.each
    (contains_of c z.cuts.items among) in
    record {
      next = cuts.next;
      next_is = cuts.next_is;
      chains = cuts.chains;
      are_sources = cuts.are_sources;
      labels = one.0;
      listed = one.1;
      are = one.2;
    }

-- and what a source says of it
pub record CutSourceThere (a : Asking) (zone : Labels) (c : ℕ) (s : CutSource) : Type 0 where
  pub chain : Chain
  pub its_case : IsCutCase a.basis (source_said a zone chain) (HasOptOut a zone chain) (rightmost a.name (c - 1)) (rightmost a.name c)
      s.case

pub cut_source_there : (a : Asking) (z : ParentFacts) (c : CutFacts) (there : CutThere a z c) (s : CutSource) → IsAmong s c.sources.items
    → CutSourceThere a (rightmost a.name z.labels) c.name s
cut_source_there a z c there s among =
    let zone = rightmost a.name z.labels in
    let one = zip_left (IsCutSource a zone there.labels) (enumerate_from 0 there.chains) c.sources.items s there.are.sources
    (contains_of s c.sources.items among) in
    record {
      chain = one.0.1;
      its_case = subst (λ (n : ℕ). IsCutCase a.basis (source_said a zone one.0.1) (HasOptOut a zone one.0.1) (rightmost a.name (n - 1))
          (rightmost a.name n) s.case)
          (sym there.are.name) one.2.its_case;
    }

-- ---- what an answer's signature asks for

-- its facts, and what it asks for beside it
pub record AnswerThere (a : Asking) (g : GoalFacts) (s : AnswerSignature) : Type 0 where
  pub goal : GoalThere a g
  pub sn : ℕ
  pub its : AreSignatureFacts a.basis g.number goal.are.rrset sn s.signature
  pub closer : IsCloserOf a goal.are.rrset its.rrsig s.closer

pub one_signature : (rrset : ReceivedRrset) (s : ℕ) (x y : Rrsig) → IsSignatureAt rrset s x → IsSignatureAt rrset s y → x ≡ y
one_signature rrset s x y first second =
    let rdata = one_numbered rrset.signatures s first.rdata second.rdata first.numbered second.numbered in
    one_rrsig second.rdata x y (subst (λ (octets : List ℕ). IsRrsig octets x) rdata first.is) second.is

among_mapped_to : {X Y : Type 0} (f : X → Y) (xs : List X) (ys : List Y) (x : X) → map f xs ≡ ys → IsAmong x xs → Contains ys (f x)
among_mapped_to f xs ys x same among = subst (λ zs. Contains zs (f x)) same (contains_map f xs x among)

pub answer_there : (a : Asking) (q : QuestionFacts) → AreQuestionFacts a q → (g : GoalFacts) (s : AnswerSignature) → IsAmong g q.goals.items
    → IsAmong s g.signatures.items → AnswerThere a g s
answer_there a q are g s goal by =
    let there = goal_there a q are g goal in
    let its = there.are in
    let known = its.are_known in
    let listed = among_mapped_to (λ (each : AnswerSignature). each.signature) g.signatures.items its.known.signatures.items s
    its.signatures by in
    let one = zip_left (λ (signature : ℕ × Rrsig) facts. AreSignatureFacts a.basis g.number known.rrset signature.0 facts) known.order
    its.known.signatures.items
    s.signature known.each listed in
    let same = one_numbered a.basis.rrsets g.number known.rrset its.rrset known.numbered its.numbered in
    let facts : AreSignatureFacts a.basis g.number its.rrset one.0.0 s.signature =
    subst (λ (r : ReceivedRrset). AreSignatureFacts a.basis g.number r one.0.0 s.signature) same one.2 in
    let closer = each_of (HasItsCloser a its.rrset) g.signatures.items s its.closers (contains_of s g.signatures.items by) in
    let number : s.signature.number.signature ≡ one.0.0 = ap (λ (n : SignatureNumber). n.signature) facts.number in
    let rrsig : closer.rrsig ≡ facts.rrsig =
    one_signature its.rrset one.0.0 closer.rrsig facts.rrsig (subst (λ (n : ℕ). IsSignatureAt its.rrset n closer.rrsig) number closer.its)
    facts.its in
    record {
      goal = there;
      sn = one.0.0;
      its = facts;
      closer = subst (λ (r : Rrsig). IsCloserOf a its.rrset r s.closer) rrsig closer.is;
    }
