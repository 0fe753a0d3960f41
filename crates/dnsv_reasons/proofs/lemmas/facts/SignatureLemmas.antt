-- What is so of a signature is one.
use Rattle.std.proofs.Common.{◌≡◌, ◌∙◌, ℕ, List, length, sym, ap, subst}
use Rattle.std.specs.Prelude.{◌↔◌, IsTrue}
use Rattle.dnsv_records.specs.Rrsig.{IsRrsig}
use Rattle.dnsv_records.specs.declared.rrsig.Rrsig.{Rrsig}
use Rattle.dnsv_records.proofs.OneRecord.{one_rrsig}
use Rattle.dnsv_canonical.specs.Rrsets.{ReceivedRrset}
use Rattle.dnsv_chain.specs.Basis.{Basis}
use Rattle.dnsv_mending.specs.declared.facts.signature.NamedKey.{NamedKey}
use Rattle.dnsv_mending.specs.declared.facts.signature.SignatureFacts.{SignatureFacts}
use Rattle.dnsv_mending.specs.declared.facts.signature.SignatureFaults.{SignatureFaults}
use Rattle.dnsv_zone_keys.specs.Keys.{HasKeys, IsKeyPlaced, NamesKey, NamesZoneKey}
use Rattle.dnsv_faults.specs.Signatures.{AreNamedKeys, AreSignatureFacts, AreSignatureFaults, IsNamedKey, IsSignatureAt}
use Rattle.dnsv_canonical.proofs.NumberLemmas.{one_numbered}
use Rattle.dnsv_zone_faults.proofs.lemmas.zones.PlaceLemmas.{placed_rdata, read_same}
use Rattle.dnsv_remedy_laws.specs.AlikeZones.{AreAlikeSignatures}
use Rattle.dnsv_reasons.proofs.lemmas.facts.AnswerLemmas.{answered_too, one_answer}
use Rattle.dnsv_reasons.proofs.lemmas.facts.ListLemmas.{one_by_number, one_test}

-- a signature by its number
pub one_signature_at : (rrset : ReceivedRrset) (s : ℕ) (a b : Rrsig) → IsSignatureAt rrset s a → IsSignatureAt rrset s b → a ≡ b
one_signature_at rrset s a b x y =
    let rdata : x.rdata ≡ y.rdata = one_numbered rrset.signatures s x.rdata y.rdata x.numbered y.numbered in
    let Read : List ℕ → Type 0 = λ octets. IsRrsig octets a in
    one_rrsig y.rdata a b (subst Read rdata x.is) y.is

-- what is wrong with it
pub one_faults : (moment : ℕ) (rrset : ReceivedRrset) (rrsig : Rrsig) (a b : SignatureFaults) → AreSignatureFaults moment rrset rrsig a
    → AreSignatureFaults moment rrset rrsig b → a ≡ b
one_faults moment rrset rrsig a b x y =
    let labels : a.labels ≡ b.labels = one_test _ a.labels b.labels x.labels y.labels in
    let signer : a.signer ≡ b.signer = one_test _ a.signer b.signer x.signer y.signer in
    let expanded : a.expanded ≡ b.expanded = one_test _ a.expanded b.expanded x.expanded y.expanded in
    let algorithm : a.algorithm ≡ b.algorithm = one_test _ a.algorithm b.algorithm x.algorithm y.algorithm in
    let not_yet : a.not_yet ≡ b.not_yet = x.not_yet ∙ sym y.not_yet in
    let expired : a.expired ≡ b.expired = x.expired ∙ sym y.expired in
    λ i. record {
      labels = labels i;
      signer = signer i;
      expanded = expanded i;
      algorithm = algorithm i;
      not_yet = not_yet i;
      expired = expired i;
    }

module _ (basis : Basis) (rrset : ReceivedRrset) (rrsig : Rrsig) where
  abbrev place_of : NamedKey → ℕ
  place_of named = named.key

  -- a key that it names, by its place
  one_named : (a b : NamedKey) → IsNamedKey basis rrset rrsig a → IsNamedKey basis rrset rrsig b → a.key ≡ b.key → a ≡ b
  one_named a b x y place =
      let At : ℕ → Type 0 = λ n. IsKeyPlaced basis.rrsets rrsig.signer n x.key in
      let there : IsKeyPlaced basis.rrsets rrsig.signer b.key x.key = subst At place x.placed in
      let rdata : x.key.rdata ≡ y.key.rdata = placed_rdata basis.rrsets rrsig.signer b.key x.key y.key there y.placed in
      let dnskey : x.key.dnskey ≡ y.key.dnskey = read_same x.key y.key rdata there.read y.placed.read in
      let answer : a.answer ≡ b.answer =
      one_answer basis.meaning basis.moment rrset rrsig x.key y.key a.answer b.answer
      (λ given is. answered_too basis.meaning basis.moment rrset rrsig x.key y.key given rdata dnskey y.placed.owner is)
      (λ given is. answered_too basis.meaning basis.moment rrset rrsig y.key x.key given (sym rdata) (sym dnskey) there.owner is)
      x.answered y.answered in
      λ i. record { key = place i; answer = answer i }

  pub one_named_keys : (a b : List NamedKey) → AreNamedKeys basis rrset rrsig a → AreNamedKeys basis rrset rrsig b → a ≡ b
  one_named_keys a b x y =
      one_by_number place_of (IsNamedKey basis rrset rrsig) a b x.rising y.rising x.each y.each
      (λ named is. x.all named.key is.key is.placed is.meant) (λ named is. y.all named.key is.key is.placed is.meant) one_named

-- what is so of a signature
pub one_signature_facts : (basis : Basis) (k : ℕ) (rrset : ReceivedRrset) (s : ℕ) (a b : SignatureFacts)
    → AreSignatureFacts basis k rrset s a → AreSignatureFacts basis k rrset s b → AreAlikeSignatures a b
one_signature_facts basis k rrset s a b x y =
    let rrsig : x.rrsig ≡ y.rrsig = one_signature_at rrset s x.rrsig y.rrsig x.its y.its in
    let Faults : Rrsig → Type 0 = λ each. AreSignatureFaults basis.moment rrset each a.faults in
    let Missing : Rrsig → Type 0 = λ each. IsTrue a.key_missing ↔ (HasKeys basis.rrsets each.signer × (¬ NamesKey basis.rrsets each)) in
    let None : Rrsig → Type 0 = λ each. IsTrue a.not_zone_key ↔ (NamesKey basis.rrsets each × (¬ NamesZoneKey basis.rrsets each)) in
    let Keys : Rrsig → Type 0 = λ each. AreNamedKeys basis rrset each a.keys.items in
    record {
      number = x.number ∙ sym y.number;
      signer = x.signer ∙ ap (λ (each : Rrsig). length each.signer) rrsig ∙ sym y.signer;
      is_signed = one_test _ a.is_signed b.is_signed x.signed y.signed;
      faults = one_faults basis.moment rrset y.rrsig a.faults b.faults (subst Faults rrsig x.faults) y.faults;
      key_missing = one_test _ a.key_missing b.key_missing (subst Missing rrsig x.key_missing) y.key_missing;
      not_zone_key = one_test _ a.not_zone_key b.not_zone_key (subst None rrsig x.not_zone_key) y.not_zone_key;
      keys = one_named_keys basis rrset y.rrsig a.keys.items b.keys.items (subst Keys rrsig x.keys) y.keys;
    }
