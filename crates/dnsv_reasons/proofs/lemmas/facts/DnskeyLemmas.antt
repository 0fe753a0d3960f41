-- What is so of a DNSKEY RRset is one.
use Rattle.std.proofs.Common.{◌≡◌, ◌≢◌, ◌∙◌, ◌+◌, ℕ, IsTrue, List, [], ◌∷◌, sym, ap, subst}
use Rattle.std.specs.Prelude.{◌↔◌}
use Rattle.std.specs.List.{AllZip}
use Rattle.dnsv_names.specs.Name.{Labels}
use Rattle.dnsv_records.specs.Dnskey.KeyTag.{key_tag_of}
use Rattle.dnsv_records.specs.declared.rrsig.Rrsig.{Rrsig}
use Rattle.dnsv_canonical.proofs.CanonicalLemmas.{canonical_unique}
use Rattle.dnsv_canonical.specs.Canonical.{IsCanonical}
use Rattle.dnsv_canonical.specs.Index.{numbers_at}
use Rattle.dnsv_canonical.specs.Rrsets.{ReceivedRrset}
use Rattle.dnsv_chain.specs.Trusted.{IsTrusted}
use Rattle.dnsv_verifier.specs.Admissible.{DnskeyRecord}
use Rattle.dnsv_chain.specs.Basis.{Basis}
use Rattle.dnsv_lines.specs.declared.line.derivation.KeyName.{KeyName}
use Rattle.dnsv_mending.specs.declared.facts.keys.DnskeyFacts.{DnskeyFacts}
use Rattle.dnsv_mending.specs.declared.facts.keys.HeldKey.{HeldKey}
use Rattle.dnsv_mending.specs.declared.facts.keys.SelfSignature.{SelfSignature}
use Rattle.dnsv_zone_keys.specs.Answers.{IsKeyAnswer}
use Rattle.dnsv_zone_faults.specs.Dnskeys.{AreAllDnskeyFacts, AreDnskeyFacts, AreHeldKeys, AreOwnSignatures, IsHeldKey, IsNamedIn, IsOwnSignature, signature_number}
use Rattle.dnsv_zone_keys.specs.Keys.{IsZoneKey}
use Rattle.dnsv_faults.specs.Signatures.{AreSignatureFaults, IsSignatureAt}
use Rattle.dnsv_canonical.proofs.NumberLemmas.{one_numbered}
use Rattle.dnsv_zone_faults.proofs.lemmas.zones.PlaceLemmas.{placed_once, same_record}
use Rattle.dnsv_remedy_laws.specs.AlikeZones.{AreAlikeDnskeys, AreAlikeHeldKeys}
use Rattle.dnsv_reasons.proofs.lemmas.facts.AnswerLemmas.{one_answer}
use Rattle.dnsv_reasons.proofs.lemmas.facts.ListLemmas.{alike_zip, one_by_number, one_test}
use Rattle.dnsv_reasons.proofs.lemmas.facts.SignatureLemmas.{one_faults, one_signature_at}

module _ (basis : Basis) (k : ℕ) (set : ReceivedRrset) (key : DnskeyRecord) where
  -- ---- the signatures that may be by a key

  one_own : (a b : SelfSignature) → IsOwnSignature basis k set key a → IsOwnSignature basis k set key b
      → signature_number a ≡ signature_number b → a ≡ b
  one_own a b x y number =
      let At : ℕ → Type 0 = λ s. IsSignatureAt set s x.rrsig in
      let rrsig : x.rrsig ≡ y.rrsig = one_signature_at set b.number.signature x.rrsig y.rrsig (subst At number x.its) y.its in
      let rrset : a.number.rrset ≡ b.number.rrset = x.rrset ∙ sym y.rrset in
      let Faults : Rrsig → Type 0 = λ each. AreSignatureFaults basis.moment set each a.faults in
      let faults : a.faults ≡ b.faults = one_faults basis.moment set y.rrsig a.faults b.faults (subst Faults rrsig x.faults) y.faults in
      let Answered : Rrsig → Type 0 = λ each. IsKeyAnswer basis.meaning basis.moment set each key a.answer in
      let answer : a.answer ≡ b.answer =
      one_answer basis.meaning basis.moment set y.rrsig key key a.answer b.answer (λ given is. is) (λ given is. is)
      (subst Answered rrsig x.answered) y.answered in
      λ i. record { number = record { rrset = rrset i; signature = number i }; faults = faults i; answer = answer i }

  pub one_own_signatures : (a b : List SelfSignature) → AreOwnSignatures basis k set key a → AreOwnSignatures basis k set key b → a ≡ b
  one_own_signatures a b x y =
      one_by_number signature_number (IsOwnSignature basis k set key) a b x.rising y.rising x.each y.each
      (λ own is. x.all own.number.signature is.rrsig is.its is.may) (λ own is. y.all own.number.signature is.rrsig is.its is.may) one_own

module _ (basis : Basis) (zone : Labels) (k : ℕ) (set : ReceivedRrset) where
  -- ---- the keys

  abbrev name_of : List ℕ → DnskeyRecord → KeyName
  name_of rdata key = record { tag = record { 0 = key_tag_of rdata }; algorithm = key.dnskey.algorithm }

  pub one_held_key : (place : ℕ) (rdata : List ℕ) (a b : HeldKey) → IsHeldKey basis zone k set place rdata a
      → IsHeldKey basis zone k set place rdata b → AreAlikeHeldKeys a b
  one_held_key place rdata a b x y =
      let octets : x.key.rdata ≡ y.key.rdata = x.rdata_is ∙ sym y.rdata_is in
      let key : x.key ≡ y.key = same_record set x.key y.key x.stands y.stands octets in
      let ZoneKey : DnskeyRecord → Type 0 = λ each. IsTrue a.is_zone_key ↔ IsZoneKey each in
      let Named : DnskeyRecord → Type 0 = λ each. IsTrue a.is_named ↔ IsNamedIn set each in
      let Own : DnskeyRecord → Type 0 = λ each. AreOwnSignatures basis k set each a.signatures.items in
      record {
        number = x.number ∙ sym y.number;
        key = placed_once basis.rrsets zone a.key b.key x.key y.key x.placed y.placed octets;
        name = x.name ∙ ap (name_of rdata) key ∙ sym y.name;
        is_zone_key = one_test (IsZoneKey y.key) a.is_zone_key b.is_zone_key (subst ZoneKey key x.zone_key) y.zone_key;
        is_named = one_test (IsNamedIn set y.key) a.is_named b.is_named (subst Named key x.named) y.named;
        signatures = one_own_signatures basis k set y.key a.signatures.items b.signatures.items (subst Own key x.signatures) y.signatures;
      }

  one_held_keys : (place : ℕ) (canonical : List (List ℕ)) (a b : List HeldKey) → AreHeldKeys basis zone k set place canonical a
      → AreHeldKeys basis zone k set place canonical b → AllZip AreAlikeHeldKeys a b
  one_held_keys place [] [] [] x y = tt
  one_held_keys place [] [] (held ∷ b) x y = absurd y
  one_held_keys place [] (held ∷ a) b x y = absurd x
  one_held_keys place (rdata ∷ rest) [] b x y = absurd x
  one_held_keys place (rdata ∷ rest) (held ∷ a) [] x y = absurd y
  one_held_keys place (rdata ∷ rest) (held ∷ a) (other ∷ b) x y =
      (one_held_key place rdata held other x.0 y.0, one_held_keys (place + 1) rest a b x.1 y.1)

module _ (basis : Basis) (zone : Labels) where
  -- ---- the RRset

  pub one_dnskey_facts : (k : ℕ) (a b : DnskeyFacts) → AreDnskeyFacts basis zone k a → AreDnskeyFacts basis zone k b
      → AreAlikeDnskeys a b
  one_dnskey_facts k a b x y =
      let set : x.set ≡ y.set = one_numbered basis.rrsets k x.set y.set x.numbered y.numbered in
      let Trusted : ReceivedRrset → Type 0 = λ each.
      IsTrue a.is_trusted ↔ IsTrusted basis.meaning basis.moment basis.rrsets basis.anchors each in
      let Signed : ReceivedRrset → Type 0 = λ each. IsTrue a.has_signatures ↔ (each.signatures ≢ []) in
      let InOrder : ReceivedRrset → Type 0 = λ each. IsCanonical each.rdata x.canonical in
      let canonical : x.canonical ≡ y.canonical =
      canonical_unique y.set.rdata x.canonical y.canonical (subst InOrder set x.in_order) y.in_order in
      let Of : ReceivedRrset → Type 0 = λ each. AreHeldKeys basis zone k each 1 x.canonical a.keys.items in
      let By : List (List ℕ) → Type 0 = λ each. AreHeldKeys basis zone k y.set 1 each a.keys.items in
      record {
        number = x.number ∙ sym y.number;
        is_trusted = one_test _ a.is_trusted b.is_trusted (subst Trusted set x.trusted) y.trusted;
        has_signatures = one_test _ a.has_signatures b.has_signatures (subst Signed set x.signed) y.signed;
        keys = one_held_keys basis zone k y.set 1 y.canonical a.keys.items b.keys.items (subst By canonical (subst Of set x.keys)) y.keys;
      }

  pub one_all_dnskey_facts : (a b : List DnskeyFacts) → AreAllDnskeyFacts basis zone a → AreAllDnskeyFacts basis zone b
      → AllZip AreAlikeDnskeys a b
  one_all_dnskey_facts a b x y =
      alike_zip (AreDnskeyFacts basis zone) AreAlikeDnskeys one_dnskey_facts (numbers_at basis.rrsets zone 48) a b x y
