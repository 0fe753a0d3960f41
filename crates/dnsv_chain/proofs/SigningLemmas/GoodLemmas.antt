-- A signature under one key.
use Rattle.std.proofs.Common.{◌≡◌, ◌↔◌, ℕ, List, Some, None, refl, ap, ◌∙◌, arith}
use Rattle.dnsv_records.specs.declared.rrsig.Rrsig.{Rrsig}
use Rattle.dnsv_canonical.specs.Rrsets.{ReceivedRrset}
use Rattle.dnsv_canonical.specs.SignedData.{IsSignedData}
use Rattle.dnsv_verifier.specs.Admissible.{DnskeyRecord, IsAdmissible, IsEntryOf, IsGood, entry_over}
use Rattle.dnsv_verifier.specs.declared.answer.Answer.{Answer}
use Rattle.dnsv_verifier.specs.declared.entry.Entry.{Entry}
use Rattle.dnsv_chain.specs.Signing.{IsValidBy}

module _ (meaning : Entry → Answer) (moment : ℕ) (rrset : ReceivedRrset) (rrsig : Rrsig) (key : DnskeyRecord) where
  pub not_admissible : ¬ IsAdmissible moment rrset rrsig key → IsGood meaning moment rrset rrsig key → ⊥
  not_admissible never good = never good.admissible

  -- what a key may be used for signs something
  pub never_signed : IsAdmissible moment rrset rrsig key → IsSignedData rrset.owner rrset.rtype rrset.rdata rrsig None → ⊥
  never_signed admissible none = let labels = admissible.over.labels in omega (arith, labels, none)

  -- over what it signs, Valid is good
  pub good_if_valid : (octets : List ℕ) → IsAdmissible moment rrset rrsig key
      → IsSignedData rrset.owner rrset.rtype rrset.rdata rrsig (Some octets)
      → ((a b : Entry) → IsEntryOf rrset rrsig key a → IsEntryOf rrset rrsig key b → a ≡ b)
      → IsValidBy meaning rrsig octets key ↔ IsGood meaning moment rrset rrsig key
  good_if_valid octets admissible signed one =
      let entry : Entry = entry_over rrsig octets key in
      let is : IsEntryOf rrset rrsig key entry = record { algorithm = refl; key_field = refl; signed_data = signed; signature = refl } in (
        λ by. record { admissible = admissible; entry = entry; is = is; valid = by.valid },
        λ good. record {
          made = record { zone_key = admissible.zone_key; named = admissible.named };
          valid = ap meaning (one entry good.entry is good.is) ∙ good.valid;
        },
      )
