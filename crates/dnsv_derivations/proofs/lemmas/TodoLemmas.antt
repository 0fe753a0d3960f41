-- Numbers of what is asked of a verifier.
use Rattle.std.proofs.Common.{◌≡◌, ◌<◌, ◌≤◌, ◌+◌, ℕ, List, Option, Some, None, length, get_or, slice_index_or, arith, refl, sym, ap, ◌∙◌, subst, ⊎_elim}
use Rattle.std.proofs.lemmas.Bool.{cases_lt}
use Rattle.std.specs.List.{Contains}
use Rattle.dnsv_records.specs.declared.rrsig.Rrsig.{Rrsig}
use Rattle.dnsv_canonical.proofs.SignedLemmas.{signed_data_unique}
use Rattle.dnsv_canonical.specs.Rrsets.{IsNumbered, ReceivedRrset}
use Rattle.dnsv_canonical.specs.SignedData.{IsSignedData}
use Rattle.dnsv_verifier.proofs.EntryLemmas.{one_entry}
use Rattle.dnsv_verifier.specs.Admissible.{DnskeyRecord, IsEntryOf, entry_over}
use Rattle.dnsv_verifier.specs.declared.entry.Entry.{Entry}
use Rattle.dnsv_derivations.specs.Explained.{IsTodo}
use Rattle.dnsv_derivations.proofs.lemmas.NumberedLemmas.{numbered_at}

module _ (rrset : ReceivedRrset) (rrsig : Rrsig) (key : DnskeyRecord) where
  -- what signs nothing has no entry
  pub never_asked : IsSignedData rrset.owner rrset.rtype rrset.rdata rrsig None → (entry : Entry) → IsEntryOf rrset rrsig key entry → ⊥
  never_asked none entry is =
      let clash : None ≡ Some entry.signed_data =
      signed_data_unique rrset.owner rrset.rtype rrset.rdata rrsig None (Some entry.signed_data) none is.signed_data in cc

  pub its_number : (entries : List Entry) (octets : List ℕ) (number : Option ℕ)
      → IsSignedData rrset.owner rrset.rtype rrset.rdata rrsig (Some octets)
      → IsTodo entries (entry_over rrsig octets key) number → (entry : Entry) → IsEntryOf rrset rrsig key entry → IsTodo entries entry number
  its_number entries octets number signed todo entry is =
      let Of : Entry → Type 0 = λ each. IsTodo entries each number in
      let over : IsEntryOf rrset rrsig key (entry_over rrsig octets key) =
      record { algorithm = refl; key_field = refl; signed_data = signed; signature = refl } in
      subst Of (one_entry rrset rrsig key (entry_over rrsig octets key) entry over is) todo

-- ---- one after another

module _ (entries : List Entry) (wanted : Entry) where
  -- it is none of the first n
  abbrev pub NoneYet : ℕ → Type 0
  NoneYet n = (i : ℕ) → i < n → i < length entries → get_or entries i wanted ≡ wanted → ⊥

  pub none_yet : NoneYet 0
  none_yet = λ i below within is. absurd (omega (arith, below))

  pub none_more : (n : ℕ) (found : Entry) → ((other : Entry) → slice_index_or entries n other ≡ found) → (found ≡ wanted → ⊥) → NoneYet n
      → NoneYet (n + 1)
  none_more n found at never none = λ i below within is. ⊎_elim
      (λ (earlier : i < n). none i earlier within is)
      (λ (later : n ≤ i).
      let place : i ≡ n = omega (arith, below, later) in
      never (sym (at wanted) ∙ ap (λ (p : ℕ). get_or entries p wanted) (sym place) ∙ is))
      (cases_lt i n)

  pub not_among : (n : ℕ) → length entries ≤ n → NoneYet n → ¬ Contains entries wanted
  not_among n past none there = let within = there.1 in none there.0 (omega (arith, within, past)) there.1 there.2

  pub is_here : (n : ℕ) (found : Entry) → n < length entries → ((other : Entry) → slice_index_or entries n other ≡ found) → found ≡ wanted
      → IsNumbered entries (n + 1) wanted
  is_here n found within at is = numbered_at entries entries n wanted refl within (sym (at wanted ∙ is))

-- the entry by its four values
pub entry_is : (found : Entry) (rrsig : Rrsig) (key : DnskeyRecord) (octets : List ℕ)
    → (found.algorithm.0 ≡ rrsig.algorithm.0) × (found.key ≡ key.dnskey.key) × (found.signed_data ≡ octets) × (found.signature ≡ rrsig.signature)
    → found ≡ entry_over rrsig octets key
entry_is found rrsig key octets same = λ i. record {
  algorithm = record { 0 = same.0 i };
  key = same.1 i;
  signed_data = same.2 i;
  signature = same.3 i;
}

pub entry_parts : (found : Entry) (rrsig : Rrsig) (key : DnskeyRecord) (octets : List ℕ) → found ≡ entry_over rrsig octets key
    → (found.algorithm.0 ≡ rrsig.algorithm.0) × (found.key ≡ key.dnskey.key) × (found.signed_data ≡ octets) × (found.signature ≡ rrsig.signature)
entry_parts found rrsig key octets is = (
  ap (λ (each : Entry). each.algorithm.0) is,
  ap (λ (each : Entry). each.key) is,
  ap (λ (each : Entry). each.signed_data) is,
  ap (λ (each : Entry). each.signature) is,
)
