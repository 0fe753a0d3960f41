-- What may answer a question, with its signatures and what these ask for (RFC 4035 5.3).
use Rattle.std.specs.Prelude.{◌≡◌, ◌↔◌, ℕ, IsTrue, List, map}
use Rattle.std.specs.List.{AllByRecursion}
use Rattle.dnsv_zones.specs.zones.TypeNumbers.{cname}
use Rattle.dnsv_canonical.specs.Rrsets.{IsNumbered, ReceivedRrset}
use Rattle.dnsv_faults.specs.KnownZones.{IsGoal}
use Rattle.dnsv_faults.specs.Rrsets.{AreRrsetFacts}
use Rattle.dnsv_mending.specs.declared.facts.signature.RrsetFacts.{RrsetFacts}
use Rattle.dnsv_remedies.specs.declared.facts.answer.AnswerSignature.{AnswerSignature}
use Rattle.dnsv_remedies.specs.declared.facts.answer.GoalFacts.{GoalFacts}
use Rattle.dnsv_gaps.specs.Asking.{Asking}
use Rattle.dnsv_gaps.specs.questions.Closers.{HasCloserAt}
use Rattle.dnsv_gaps.specs.questions.Listing.{AreOfNumbers}

-- the signature, which is one of the RRset's, with what it asks for beside it
abbrev pub HasItsCloser : Asking → ReceivedRrset → AnswerSignature → Type 0
HasItsCloser a rrset facts = HasCloserAt a rrset facts.signature.number.signature facts.closer

-- RRset k may answer
abbrev pub IsGoalNumber : Asking → ℕ → Type 0
IsGoalNumber a k = (rrset : ReceivedRrset) × IsNumbered a.basis.rrsets k rrset × IsGoal a.name a.rtype rrset

-- what is so of the RRset: its signatures are those of its facts, each with what it asks for
pub record AreGoalFacts (a : Asking) (facts : GoalFacts) : Type 0 where
  pub rrset : ReceivedRrset
  pub numbered : IsNumbered a.basis.rrsets facts.number rrset
  pub is_cname : IsTrue facts.is_cname ↔ (rrset.rtype ≡ cname)
  pub known : RrsetFacts
  pub are_known : AreRrsetFacts a.basis facts.number known
  pub signatures : map (λ each. each.signature) facts.signatures.items ≡ known.signatures.items
  pub closers : AllByRecursion (HasItsCloser a rrset) facts.signatures.items

-- those of each RRset that may answer, by their numbers
abbrev pub AreGoals : Asking → List GoalFacts → Type 0
AreGoals a = AreOfNumbers (λ goal. goal.number) (IsGoalNumber a) (AreGoalFacts a)
