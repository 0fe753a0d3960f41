-- What a verifier says of a signature under one key (RFC 4035 5.3.3).
pub mod AnswerSearch
use Rattle.std.specs.Prelude.{◌≡◌, ℕ}
use Rattle.dnsv_records.specs.declared.rrsig.Rrsig.{Rrsig}
use Rattle.dnsv_canonical.specs.Rrsets.{ReceivedRrset}
use Rattle.dnsv_verifier.specs.Admissible.{DnskeyRecord, IsAdmissible, IsEntryOf}
use Rattle.dnsv_verifier.specs.declared.answer.Answer.{Answer}
use Rattle.dnsv_verifier.specs.declared.answer.Answer.TheVariants.{Valid, Invalid}
use Rattle.dnsv_verifier.specs.declared.entry.Entry.{Entry}
use Rattle.dnsv_mending.specs.declared.facts.signature.KeyAnswer.{KeyAnswer}
use Rattle.dnsv_mending.specs.declared.facts.signature.KeyAnswer.TheVariants as said

-- the key may be used for the signature of the RRset at the moment, and this is the answer
pub record IsAnswered
    (meaning : Entry → Answer) (moment : ℕ) (rrset : ReceivedRrset) (rrsig : Rrsig) (key : DnskeyRecord) (answer : Answer)
    : Type 0 where
  pub admissible : IsAdmissible moment rrset rrsig key
  pub entry : Entry
  pub is : IsEntryOf rrset rrsig key entry
  pub says : meaning entry ≡ answer

-- good, or bad; where the verifier knows no answer, or isn't asked, nothing is known
abbrev pub IsKeyAnswer : (Entry → Answer) → ℕ → ReceivedRrset → Rrsig → DnskeyRecord → KeyAnswer → Type 0
IsKeyAnswer meaning moment rrset rrsig key said.Good = IsAnswered meaning moment rrset rrsig key Valid
IsKeyAnswer meaning moment rrset rrsig key said.Bad = IsAnswered meaning moment rrset rrsig key Invalid
IsKeyAnswer meaning moment rrset rrsig key said.Unanswered =
    (¬ IsAnswered meaning moment rrset rrsig key Valid) × (¬ IsAnswered meaning moment rrset rrsig key Invalid)
