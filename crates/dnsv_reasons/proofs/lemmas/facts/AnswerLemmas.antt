-- What a verifier says of a signature under one key is one.
use Rattle.std.proofs.Common.{◌≡◌, ◌∙◌, ℕ, refl, sym, ap, subst}
use Rattle.dnsv_names.specs.Name.{SameName}
use Rattle.dnsv_records.specs.declared.rrsig.Rrsig.{Rrsig}
use Rattle.dnsv_canonical.specs.Rrsets.{ReceivedRrset}
use Rattle.dnsv_verifier.specs.Admissible.{DnskeyRecord}
use Rattle.dnsv_verifier.specs.declared.answer.Answer.{Answer}
use Rattle.dnsv_verifier.specs.declared.answer.Answer.TheVariants.{Valid, Invalid}
use Rattle.dnsv_verifier.specs.declared.entry.Entry.{Entry}
use Rattle.dnsv_verifier.proofs.EntryLemmas.{one_entry}
use Rattle.dnsv_mending.specs.declared.facts.signature.KeyAnswer.{KeyAnswer}
use Rattle.dnsv_mending.specs.declared.facts.signature.KeyAnswer.TheVariants as said
use Rattle.dnsv_zone_keys.specs.Answers.{IsAnswered, IsKeyAnswer}

module _ (meaning : Entry → Answer) (moment : ℕ) (rrset : ReceivedRrset) (rrsig : Rrsig) where
  abbrev Answers : DnskeyRecord → Answer → Type 0
  Answers key answer = IsAnswered meaning moment rrset rrsig key answer

  -- it isn't both good and bad
  never_both : (key : DnskeyRecord) → Answers key Valid → ¬ Answers key Invalid
  never_both key good bad =
      let entry = one_entry rrset rrsig key good.entry bad.entry good.is bad.is in
      let clash : Valid ≡ Invalid = sym good.says ∙ ap meaning entry ∙ bad.says in
      absurd (cc clash)

  -- a key is its RDATA: under another of the same fields, whose owner is the signer too, the answer is the same
  pub answered_too : (key other : DnskeyRecord) (answer : Answer) → key.rdata ≡ other.rdata → key.dnskey ≡ other.dnskey
      → SameName other.owner rrsig.signer → Answers key answer → Answers other answer
  answered_too key other answer rdata dnskey owner is =
      let Of : DnskeyRecord → Type 0 = λ each. Answers each answer in
      let moved : Answers (record { owner = key.owner; rdata = other.rdata; dnskey = other.dnskey }) answer =
      subst Of (λ i. record { owner = key.owner; rdata = rdata i; dnskey = dnskey i }) is in
      let admissible = moved.admissible in
      record {
        admissible = record {
          over = admissible.over;
          timely = admissible.timely;
          signer = admissible.signer;
          unexpanded = admissible.unexpanded;
          zone_key = record { owner = owner; protocol = admissible.zone_key.protocol; zone_key = admissible.zone_key.zone_key };
          named = record {
            algorithm = admissible.named.algorithm;
            key_tag = admissible.named.key_tag;
            supported = admissible.named.supported;
          };
        };
        entry = moved.entry;
        is = record {
          algorithm = moved.is.algorithm;
          key_field = moved.is.key_field;
          signed_data = moved.is.signed_data;
          signature = moved.is.signature;
        };
        says = moved.says;
      }

  -- under two keys with the same answers
  pub one_answer : (key other : DnskeyRecord) (a b : KeyAnswer) → ((answer : Answer) → Answers key answer → Answers other answer)
      → ((answer : Answer) → Answers other answer → Answers key answer) → IsKeyAnswer meaning moment rrset rrsig key a
      → IsKeyAnswer meaning moment rrset rrsig other b → a ≡ b
  one_answer key other said.Good said.Good to from x y = refl
  one_answer key other said.Good said.Bad to from x y = absurd (never_both other (to Valid x) y)
  one_answer key other said.Good said.Unanswered to from x y = absurd (y.0 (to Valid x))
  one_answer key other said.Bad said.Good to from x y = absurd (never_both other y (to Invalid x))
  one_answer key other said.Bad said.Bad to from x y = refl
  one_answer key other said.Bad said.Unanswered to from x y = absurd (y.1 (to Invalid x))
  one_answer key other said.Unanswered said.Good to from x y = absurd (x.0 (from Valid y))
  one_answer key other said.Unanswered said.Bad to from x y = absurd (x.1 (from Invalid y))
  one_answer key other said.Unanswered said.Unanswered to from x y = refl
