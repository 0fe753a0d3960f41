-- What stands at a place of the evidence, and that nothing stands at another.
use Rattle.std.proofs.Common.{◌≡◌, ◌-◌, ℕ, List, map, refl, subst}
use Rattle.std.specs.List.{AllZip}
use Rattle.dnsv_records.specs.Rrsig.{IsRrsig}
use Rattle.dnsv_records.specs.declared.rrsig.Rrsig.{Rrsig}
use Rattle.dnsv_canonical.specs.Canonical.{IsCanonical}
use Rattle.dnsv_canonical.specs.Rrsets.{IsNumbered, ReceivedRrset}
use Rattle.dnsv_canonical.specs.declared.number.SignatureNumber.{SignatureNumber}
use Rattle.dnsv_canonical.proofs.CanonicalLemmas.{canonical_unique}
use Rattle.dnsv_canonical.proofs.NumberLemmas.{one_numbered}
use Rattle.dnsv_rrsets.specs.declared.canonical_order.ReadRecord.{ReadRecord}
use Rattle.dnsv_proof_forms.proofs.lemmas.PlaceLemmas.{mapped_at}
use Rattle.dnsv_denial.proofs.lemmas.proving.ZoneChainLemmas.{unmapped_at}
use Rattle.dnsv_chain.proofs.NumberedLemmas.{rdata_at, rrsig_at}
use Rattle.dnsv_lines.specs.declared.line.fault.signature.ShownSignature.{ShownSignature}
use Rattle.dnsv_trust_reasons.specs.Places.{IsPlaced, IsShown, shown_of}

-- ---- signatures

module _ (rrsets : List ReceivedRrset) (number : SignatureNumber) (rrset : ReceivedRrset) (rrsigs : List Rrsig)
    (is_rrset : IsNumbered rrsets number.rrset rrset) (zip : AllZip IsRrsig rrset.signatures rrsigs) where
  pub some_shown : (rrsig : Rrsig) → IsNumbered rrsigs number.signature rrsig → IsShown rrsets number (shown_of number rrset rrsig)
  some_shown rrsig numbered =
      let there = rdata_at rrset.signatures rrsigs zip (number.signature - 1) rrsig numbered.1 in record {
        rrset = rrset;
        numbered = is_rrset;
        rdata = there.0;
        is_signature = (numbered.0, there.1);
        rrsig = rrsig;
        read = there.2;
        is = refl;
      }

  pub none_shown : ((rrsig : Rrsig) → ¬ IsNumbered rrsigs number.signature rrsig) → (shown : ShownSignature)
      → IsShown rrsets number shown → ⊥
  none_shown none shown is =
      let same : is.rrset ≡ rrset = one_numbered rrsets number.rrset is.rrset rrset is.numbered is_rrset in
      let Numbered : ReceivedRrset → Type 0 = λ each. IsNumbered each.signatures number.signature is.rdata in
      let numbered : Numbered rrset = subst Numbered same is.is_signature in
      let there = rrsig_at rrset.signatures rrsigs zip (number.signature - 1) is.rdata numbered.1 in
      none there.0 (numbered.0, there.1)

-- ---- records in canonical order

module _ {T : Type 0} (rrset : ReceivedRrset) (records : List (ReadRecord T)) (place : ℕ)
    (order : IsCanonical rrset.rdata (map (λ (each : ReadRecord T). each.rdata.now) records)) where
  pub some_placed : (found : ReadRecord T) → IsNumbered records place found → IsPlaced rrset place found.rdata.now
  some_placed found numbered = record {
    canonical = map (λ (each : ReadRecord T). each.rdata.now) records;
    in_order = order;
    numbered = (numbered.0, mapped_at (λ (each : ReadRecord T). each.rdata.now) records (place - 1) found numbered.1);
  }

  pub none_placed : ((each : ReadRecord T) → ¬ IsNumbered records place each) → (rdata : List ℕ) → IsPlaced rrset place rdata → ⊥
  none_placed none rdata placed =
      let all : List (List ℕ) = map (λ (each : ReadRecord T). each.rdata.now) records in
      let lists : placed.canonical ≡ all = canonical_unique rrset.rdata placed.canonical all placed.in_order order in
      let at : IsNumbered all place rdata = subst (λ (each : List (List ℕ)). IsNumbered each place rdata) lists placed.numbered in
      let there = unmapped_at (λ (each : ReadRecord T). each.rdata.now) records (place - 1) rdata at.1 in
      none there.0 (at.0, there.1)
