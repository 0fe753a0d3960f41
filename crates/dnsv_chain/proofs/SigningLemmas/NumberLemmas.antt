-- Signatures by their numbers, and what a table says of these.
use Rattle.std.proofs.Common.{◌≡◌, ◌<◌, ◌≤◌, ◌+◌, ◌-◌, ◌↔◌, ℕ, List, [], Option, Some, None, MatchOption, length, get_or, sym, ap, ◌∙◌, subst, arith}
use Rattle.std.proofs.lemmas.Option.{slice_get-get_or}
use Rattle.std.specs.List.{AllZip, slice_get}
use Rattle.dnsv_records.proofs.OneRecord.{one_rrsig}
use Rattle.dnsv_records.specs.Rrsig.{IsRrsig}
use Rattle.dnsv_records.specs.declared.rrsig.Rrsig.{Rrsig}
use Rattle.dnsv_canonical.specs.Rrsets.{IsNumbered, ReceivedRrset}
use Rattle.dnsv_canonical.specs.declared.number.SignatureNumber.{SignatureNumber}
use Rattle.dnsv_canonical.proofs.NumberLemmas.{one_numbered}
use Rattle.dnsv_verifier.proofs.EntryLemmas.{one_entry}
use Rattle.dnsv_verifier.specs.Admissible.{DnskeyRecord, IsEntryOf, IsGood, IsVerifiable, MayHaveMade}
use Rattle.dnsv_verifier.specs.Table.{HasNumber, IsAnswerAt, SignsNothing, TableContents, table_answer}
use Rattle.dnsv_verifier.specs.declared.answer.Answer.{Answer}
use Rattle.dnsv_verifier.specs.declared.answer.Answer.TheVariants.{Valid}
use Rattle.dnsv_verifier.specs.declared.entry.Entry.{Entry}
use Rattle.dnsv_chain.proofs.ZipLemmas.{zip_at, zip_length}
use Rattle.dnsv_chain.specs.Signing.{IsGoodUnderSome, IsSignatureAt}

-- ---- numbers

-- the signature at the place has its number
pub signature_here : (rrset : ReceivedRrset) (rrsigs : List Rrsig) (i : ℕ) (rrsig : Rrsig) → AllZip IsRrsig rrset.signatures rrsigs
    → i < length rrsigs → rrsig ≡ get_or rrsigs i rrsig → IsSignatureAt rrset (i + 1) rrsig
signature_here rrset rrsigs i rrsig each within at =
    let sizes = zip_length IsRrsig rrset.signatures rrsigs each in
    let inside : i < length rrset.signatures = omega (arith, sizes, within) in
    let place : i + 1 - 1 ≡ i = omega arith in (
      get_or rrset.signatures i [],
      (omega arith, ap (λ (j : ℕ). slice_get rrset.signatures j) place ∙ slice_get-get_or rrset.signatures i [] inside),
      subst (λ (r : Rrsig). IsRrsig (get_or rrset.signatures i []) r) (sym at) (zip_at IsRrsig rrset.signatures rrsigs i [] rrsig each inside),
    )

-- the signature of an RRset with a number has the numbers of both
pub has_number : (rrsets : List ReceivedRrset) (number : ℕ) (rrset : ReceivedRrset) (signature : ℕ) (rrsig : Rrsig)
    → IsNumbered rrsets number rrset → IsSignatureAt rrset signature rrsig
    → HasNumber rrsets (record { rrset = number; signature = signature }) rrset rrsig
has_number rrsets number rrset signature rrsig numbered at = record {
  numbered = numbered;
  rdata = at.0;
  signature = at.1;
  is = at.2;
}

-- ---- what a table says of numbers

-- Valid by its numbers is good
pub good_by_answer : (contents : TableContents) (number : SignatureNumber) (rrset : ReceivedRrset) (rrsig : Rrsig) (key : DnskeyRecord)
    (answer : Answer) → HasNumber contents.rrsets number rrset rrsig → IsVerifiable contents.moment rrset rrsig → MayHaveMade key rrsig
    → IsAnswerAt contents number key answer → (answer ≡ Valid) ↔ IsGood (table_answer contents) contents.moment rrset rrsig key
good_by_answer contents number rrset rrsig key answer has verifiable made is =
    let own = is.has_number in
    let same : is.rrset ≡ rrset = one_numbered contents.rrsets number.rrset is.rrset rrset own.numbered has.numbered in
    let rdata : own.rdata ≡ has.rdata =
    one_numbered rrset.signatures number.signature own.rdata has.rdata
    (subst (λ (r : ReceivedRrset). IsNumbered r.signatures number.signature own.rdata) same own.signature) has.signature in
    let read : is.rrsig ≡ rrsig = one_rrsig has.rdata is.rrsig rrsig (subst (λ (octets : List ℕ). IsRrsig octets is.rrsig) rdata own.is) has.is in
    let asked : IsEntryOf rrset rrsig key is.entry =
    subst (λ (r : Rrsig). IsEntryOf rrset r key is.entry) read (subst (λ (r : ReceivedRrset). IsEntryOf r is.rrsig key is.entry) same is.asked) in (
      λ valid. record {
        admissible = record {
          over = verifiable.over;
          timely = verifiable.timely;
          signer = verifiable.signer;
          unexpanded = verifiable.unexpanded;
          zone_key = made.zone_key;
          named = made.named;
        };
        entry = is.entry;
        is = asked;
        valid = sym is.says ∙ valid;
      },
      λ good. is.says ∙ ap (table_answer contents) (one_entry rrset rrsig key is.entry good.entry asked good.is) ∙ good.valid,
    )

-- so is what it says where it is asked something
pub good_by_found : (contents : TableContents) (number : SignatureNumber) (rrset : ReceivedRrset) (rrsig : Rrsig) (key : DnskeyRecord)
    (found : Option Answer) → HasNumber contents.rrsets number rrset rrsig → IsVerifiable contents.moment rrset rrsig → MayHaveMade key rrsig
    → MatchOption found (SignsNothing contents.rrsets number) (IsAnswerAt contents number key)
    → (found ≡ Some Valid) ↔ IsGood (table_answer contents) contents.moment rrset rrsig key
good_by_found contents number rrset rrsig key None has verifiable made nothing =
    let labels = verifiable.over.labels in
    let more = nothing rrset rrsig has in absurd (omega (arith, labels, more))
good_by_found contents number rrset rrsig key (Some answer) has verifiable made is =
    let same = good_by_answer contents number rrset rrsig key answer has verifiable made is in (
      λ found. same.0 (let is_valid : Some answer ≡ Some Valid = found in cc),
      λ good. ap Some (same.1 good),
    )

-- who is good under a key may have been made by it
pub good_is_made : (meaning : Entry → Answer) (moment : ℕ) (rrset : ReceivedRrset) (rrsig : Rrsig) (key : DnskeyRecord)
    → IsGood meaning moment rrset rrsig key → MayHaveMade key rrsig
good_is_made meaning moment rrset rrsig key good = record { zone_key = good.admissible.zone_key; named = good.admissible.named }

module _ (meaning : Entry → Answer) (moment : ℕ) (rrset : ReceivedRrset) (rrsig : Rrsig) (keys : List DnskeyRecord) where
  pub good_under : (i : ℕ) (key : DnskeyRecord) → i < length keys → key ≡ get_or keys i key → IsGood meaning moment rrset rrsig key
      → IsGoodUnderSome meaning moment rrset rrsig keys
  good_under i key within at good = record { key = key; among = (i, within, sym at); good = good }

  pub good_under_none : (n : ℕ) → length keys ≤ n
      → ((k : ℕ) (d : DnskeyRecord) → k < n → IsGood meaning moment rrset rrsig (get_or keys k d) → ⊥)
      → IsGoodUnderSome meaning moment rrset rrsig keys → ⊥
  good_under_none n past none good =
      let k : ℕ = good.among.0 in
      let within = good.among.1 in
      none k good.key (omega (arith, within, past)) (subst (λ (key : DnskeyRecord). IsGood meaning moment rrset rrsig key) (sym good.among.2) good.good)
