-- The entries of one signature, of one RRset and of all evidence.
use Rattle.std.proofs.Common.{◌≡◌, ◌↔◌, ℕ, ◌<◌, ⊎_elim, List, [], length, get_or, Some, refl, sym, ◌∙◌, subst, arith}
use Rattle.std.proofs.lemmas.List.Elements.{Contains-get_or}
use Rattle.std.specs.List.{AllZip, Contains}
use Rattle.dnsv_canonical.specs.Rrsets.{ReceivedRrset}
use Rattle.dnsv_canonical.proofs.SignedLemmas.{signed_data_unique}
use Rattle.dnsv_canonical.proofs.OrderLemmas.{zip_length}
use Rattle.dnsv_records.specs.Rrsig.{IsRrsig}
use Rattle.dnsv_records.specs.declared.rrsig.Rrsig.{Rrsig}
use Rattle.dnsv_records.proofs.OneRecord.{one_rrsig}
use Rattle.dnsv_verifier.specs.Admissible.{DnskeyRecord, IsEntryOf, IsSignatureOf, MayHaveMade}
use Rattle.dnsv_verifier.specs.Asking.{AddsJust, AreKeysOf, ComesOfSome, IsEntryOfMade, IsMadeIn, IsMadeOf, IsPartOf, MadeSignature}
use Rattle.dnsv_verifier.specs.Within.{IsAskedWithin}
use Rattle.dnsv_verifier.specs.declared.entry.Entry.{Entry}
use Rattle.dnsv_verifier.specs.declared.entry.parts.SignaturePart.{SignaturePart}
use Rattle.dnsv_verifier.proofs.AskLemmas.{adds_same, zip_at}

pub one_entry : (rrset : ReceivedRrset) (rrsig : Rrsig) (key : DnskeyRecord) (a b : Entry) → IsEntryOf rrset rrsig key a
    → IsEntryOf rrset rrsig key b → a ≡ b
one_entry rrset rrsig key a b first second =
    let somehow : Some a.signed_data ≡ Some b.signed_data =
    signed_data_unique rrset.owner rrset.rtype rrset.rdata rrsig (Some a.signed_data) (Some b.signed_data) first.signed_data second.signed_data in
    let same : a.signed_data ≡ b.signed_data = cc in
    λ i. record {
      algorithm = record { 0 = (first.algorithm ∙ sym second.algorithm) i };
      key = (first.key_field ∙ sym second.key_field) i;
      signed_data = same i;
      signature = (first.signature ∙ sym second.signature) i;
    }

-- a signature gives one part
pub one_part : (rrset : ReceivedRrset) (rrsig : Rrsig) (a b : SignaturePart) → IsPartOf rrset rrsig a → IsPartOf rrset rrsig b → a ≡ b
one_part rrset rrsig a b first second =
    let somehow : Some a.signed_data ≡ Some b.signed_data =
    signed_data_unique rrset.owner rrset.rtype rrset.rdata rrsig (Some a.signed_data) (Some b.signed_data) first.signed_data second.signed_data in
    let same : a.signed_data ≡ b.signed_data = cc in
    λ i. record { signed_data = same i; signature = (first.signature ∙ sym second.signature) i }

-- the signature that can be verified, and that some key may have made, is one
pub only_made : (from to : ℕ) (keys : List DnskeyRecord) (rrset : ReceivedRrset) (rrsig : Rrsig) (a b : MadeSignature) → IsMadeOf from to keys rrset rrsig a → IsMadeOf from to keys rrset rrsig b → a ≡ b
only_made from to keys rrset rrsig a b first second =
    let part = one_part rrset rrsig a.part b.part first.part_of second.part_of in
    λ i. record { rrsig = (first.same ∙ sym second.same) i; part = part i }

-- the signatures as they were read
module _ (rrset : ReceivedRrset) (signatures : List Rrsig) (are : AllZip IsRrsig rrset.signatures signatures) where
  signature_of : (rrsig : Rrsig) → Contains signatures rrsig → IsSignatureOf rrset rrsig
  signature_of rrsig (k, within, at) =
      let count = zip_length IsRrsig rrset.signatures signatures are in
      let rdata = get_or rrset.signatures k [] in
      let inside : k < length rrset.signatures = omega arith in
      (rdata, Contains-get_or rrset.signatures k [] inside, subst (λ (r : Rrsig). IsRrsig rdata r) at (zip_at IsRrsig rrset.signatures signatures k [] rrsig are inside))

  of_signature : (rrsig : Rrsig) → IsSignatureOf rrset rrsig → Contains signatures rrsig
  of_signature rrsig (rdata, (k, within, at), is) =
      let count = zip_length IsRrsig rrset.signatures signatures are in
      let there : IsRrsig rdata (get_or signatures k rrsig) =
      subst (λ (r : List ℕ). IsRrsig r (get_or signatures k rrsig)) at (zip_at IsRrsig rrset.signatures signatures k rdata rrsig are within) in
      (k, omega arith, one_rrsig rdata (get_or signatures k rrsig) rrsig there is)

  of_itself : (from to : ℕ) (keys : List DnskeyRecord) (made : MadeSignature) (rrsig : Rrsig) → IsMadeOf from to keys rrset rrsig made → IsMadeOf from to keys rrset made.rrsig made
  of_itself from to keys made rrsig is = subst (λ (r : Rrsig). IsMadeOf from to keys rrset r made) (sym is.same) is

  pub adds_made_in : (from to : ℕ) (keys : List DnskeyRecord) (a b : List MadeSignature)
      → AddsJust (ComesOfSome (IsMadeOf from to keys rrset) signatures) a b → AddsJust (IsMadeIn from to keys rrset) a b
  adds_made_in from to keys a b adds =
      adds_same (ComesOfSome (IsMadeOf from to keys rrset) signatures) (IsMadeIn from to keys rrset) a b adds
      (λ made comes. record { its = subst (λ (r : Rrsig). IsSignatureOf rrset r) (sym comes.is.same) (signature_of comes.source comes.among); is = of_itself from to keys made comes.source comes.is })
      (λ made is. record { source = made.rrsig; among = of_signature made.rrsig is.its; is = is.is })

-- the entries of all signatures
module _ (from to : ℕ) (rrsets : List ReceivedRrset) (keys : List DnskeyRecord) (are : AreKeysOf rrsets keys)
    (mades : List MadeSignature) (all : AddsJust (ComesOfSome (IsMadeIn from to keys) rrsets) [] mades) where
  asked_of : (entry : Entry) (made : MadeSignature) → ComesOfSome (IsMadeIn from to keys) rrsets made → IsEntryOfMade keys made entry → IsAskedWithin from to rrsets entry
  asked_of entry made source comes =
      let within = source.is.is.verifiable in
      let verifiable = within.verifiable in
      let by = comes.is in
      record {
        moment = within.moment;
        begins = within.begins;
        ends = within.ends;
        asked = record {
          rrset = source.source;
          rrsig = made.rrsig;
          key = comes.source;
          among = source.among;
          its = source.is.its;
          key_among = (are comes.source).0 comes.among;
          admissible = record {
            over = verifiable.over;
            timely = verifiable.timely;
            signer = verifiable.signer;
            unexpanded = verifiable.unexpanded;
            zone_key = by.made.zone_key;
            named = by.made.named;
          };
          is = subst (λ (e : Entry). IsEntryOf source.source made.rrsig comes.source e) (sym by.is) (record {
            algorithm = by.made.named.algorithm;
            key_field = refl;
            signed_data = source.is.is.part_of.signed_data;
            signature = source.is.is.part_of.signature;
          });
        };
      }

  made_by : (entry : Entry) → IsAskedWithin from to rrsets entry → ComesOfSome (IsEntryOfMade keys) mades entry
  made_by entry within =
      let asked = within.asked in
      let made : MadeSignature = record { rrsig = asked.rrsig; part = record { signed_data = entry.signed_data; signature = entry.signature } } in
      let may : MayHaveMade asked.key asked.rrsig = record { zone_key = asked.admissible.zone_key; named = asked.admissible.named } in
      let among = (are asked.key).1 asked.key_among in
      let source : ComesOfSome (IsMadeIn from to keys) rrsets made = record {
        source = asked.rrset;
        among = asked.among;
        is = record {
          its = asked.its;
          is = record {
            same = refl;
            verifiable = record {
              moment = within.moment;
              begins = within.begins;
              ends = within.ends;
              verifiable = record { over = asked.admissible.over; timely = asked.admissible.timely; signer = asked.admissible.signer; unexpanded = asked.admissible.unexpanded };
            };
            by_some = (asked.key, among, may);
            part_of = record { signed_data = asked.is.signed_data; signature = asked.is.signature };
          };
        };
      } in
      record {
        source = made;
        among = all.added made source;
        is = record {
          source = asked.key;
          among = among;
          is = record {
            made = may;
            is = λ i. record {
              algorithm = record { 0 = (asked.is.algorithm ∙ sym asked.admissible.named.algorithm) i };
              key = asked.is.key_field i;
              signed_data = entry.signed_data;
              signature = entry.signature;
            };
          };
        };
      }

  pub just_asked : (entries : List Entry) → AddsJust (ComesOfSome (IsEntryOfMade keys) mades) [] entries
      → (entry : Entry) → Contains entries entry ↔ IsAskedWithin from to rrsets entry
  just_asked entries adds entry = (
    λ found. ⊎_elim (λ old. absurd (omega (arith, old.1)))
        (λ comes. asked_of entry comes.source (⊎_elim (λ old. absurd (omega (arith, old.1))) (λ source. source) (all.only comes.source comes.among)) comes.is)
        (adds.only entry found),
    λ asked. adds.added entry (made_by entry asked),
  )
