-- What a verifier says of a signature under one key.
use Rattle.std.proofs.Common.{◌≡◌, ◌↔◌, ℕ, IsTrue, List, Option, Some, None, refl, sym, ap, ◌∙◌, arith}
use Rattle.std.proofs.lemmas.Bool.{false≢true}
use Rattle.dnsv_records.specs.declared.rrsig.Rrsig.{Rrsig}
use Rattle.dnsv_canonical.specs.Rrsets.{ReceivedRrset}
use Rattle.dnsv_canonical.specs.SignedData.{IsSignedData}
use Rattle.dnsv_verifier.specs.Admissible.{DnskeyRecord, IsEntryOf, IsGood, IsVerifiable, MayHaveMade, entry_over}
use Rattle.dnsv_verifier.specs.declared.answer.Answer.{Answer}
use Rattle.dnsv_verifier.specs.declared.answer.Answer.TheVariants.{Valid, Invalid, Unknown}
use Rattle.dnsv_verifier.specs.declared.entry.Entry.{Entry}
use Rattle.dnsv_verifier.proofs.EntryLemmas.{one_entry}
use Rattle.dnsv_mending.specs.declared.facts.signature.KeyAnswer.{KeyAnswer}
use Rattle.dnsv_mending.specs.declared.facts.signature.KeyAnswer.TheVariants as said
use Rattle.dnsv_zone_keys.specs.Answers.AnswerSearch.{IsAskedOf, is_good_answer, key_answer}
use Rattle.dnsv_zone_keys.specs.Answers.{IsAnswered, IsKeyAnswer}

-- what can be verified signs something
pub always_signed : (moment : ℕ) (rrset : ReceivedRrset) (rrsig : Rrsig) (octets : Option (List ℕ)) → IsVerifiable moment rrset rrsig
    → IsSignedData rrset.owner rrset.rtype rrset.rdata rrsig octets → IsAskedOf moment rrset rrsig octets
always_signed moment rrset rrsig None verifiable signed = let labels = verifiable.over.labels in absurd (omega (arith, labels, signed))
always_signed moment rrset rrsig (Some octets) verifiable signed = (verifiable, signed)

module _ (meaning : Entry → Answer) (moment : ℕ) (rrset : ReceivedRrset) (rrsig : Rrsig) (key : DnskeyRecord) where
  valid : IsGood meaning moment rrset rrsig key → IsAnswered meaning moment rrset rrsig key Valid
  valid good = record { admissible = good.admissible; entry = good.entry; is = good.is; says = good.valid }

  -- what is answered as good is good
  pub good_is : (answer : KeyAnswer) → IsKeyAnswer meaning moment rrset rrsig key answer → IsTrue (is_good_answer answer) ↔ IsGood meaning moment rrset rrsig key
  good_is said.Good is = (λ yes. record { admissible = is.admissible; entry = is.entry; is = is.is; valid = is.says }, λ good. refl)
  good_is said.Bad is = (
    λ yes. absurd (false≢true yes),
    λ good.
        let same = one_entry rrset rrsig key is.entry good.entry is.is good.is in
        let clash : Invalid ≡ Valid = sym is.says ∙ ap meaning same ∙ good.valid in
        absurd (cc clash),
  )
  good_is said.Unanswered is = (λ yes. absurd (false≢true yes), λ good. absurd (is.0 (valid good)))

  -- what is answered can be verified, and the key may have made it
  can_be : (answer : Answer) → IsAnswered meaning moment rrset rrsig key answer → IsVerifiable moment rrset rrsig
  can_be answer answered = let admissible = answered.admissible in record {
    over = admissible.over;
    timely = admissible.timely;
    signer = admissible.signer;
    unexpanded = admissible.unexpanded;
  }

  pub not_verifiable : ¬ IsVerifiable moment rrset rrsig → IsKeyAnswer meaning moment rrset rrsig key said.Unanswered
  not_verifiable never = (λ good. never (can_be Valid good), λ bad. never (can_be Invalid bad))

  module _ (octets : List ℕ) (verifiable : IsVerifiable moment rrset rrsig)
      (signed : IsSignedData rrset.owner rrset.rtype rrset.rdata rrsig (Some octets)) (made : MayHaveMade key rrsig)
      (one : (a b : Entry) → IsEntryOf rrset rrsig key a → IsEntryOf rrset rrsig key b → a ≡ b) where
    its_entry : IsEntryOf rrset rrsig key (entry_over rrsig octets key)
    its_entry = record { algorithm = refl; key_field = refl; signed_data = signed; signature = refl }

    it_is : (answer : Answer) → meaning (entry_over rrsig octets key) ≡ answer → IsAnswered meaning moment rrset rrsig key answer
    it_is answer says = record {
      admissible = record {
        over = verifiable.over;
        timely = verifiable.timely;
        signer = verifiable.signer;
        unexpanded = verifiable.unexpanded;
        zone_key = made.zone_key;
        named = made.named;
      };
      entry = entry_over rrsig octets key;
      is = its_entry;
      says = says;
    }

    -- only one answer is given
    only : (answer other : Answer) → meaning (entry_over rrsig octets key) ≡ answer → IsAnswered meaning moment rrset rrsig key other
        → answer ≡ other
    only answer other says answered =
        sym says ∙ ap meaning (one (entry_over rrsig octets key) answered.entry its_entry answered.is) ∙ answered.says

    unknown_says : meaning (entry_over rrsig octets key) ≡ Unknown → IsKeyAnswer meaning moment rrset rrsig key said.Unanswered
    unknown_says says = (
      λ good. let clash : Unknown ≡ Valid = only Unknown Valid says good in absurd (cc clash),
      λ bad. let clash : Unknown ≡ Invalid = only Unknown Invalid says bad in absurd (cc clash),
    )

    pub says_so : (answer : Answer) → meaning (entry_over rrsig octets key) ≡ answer
        → IsKeyAnswer meaning moment rrset rrsig key (key_answer answer)
    says_so Unknown says = unknown_says says
    says_so answer says = it_is answer says
