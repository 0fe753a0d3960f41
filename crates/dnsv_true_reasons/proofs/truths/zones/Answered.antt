-- What a verifier is asked of a signature with which nothing is wrong, and what it says.
use Rattle.std.proofs.Common.{◌≡◌, ◌≢◌, ◌⊎◌, ◌<◌, ◌≤◌, ◌^◌, ℕ, Bool, true, false, IsTrue, ⊎_elim, List, Some, None, if◌then◌else◌, nat_le, refl, sym, ap, ◌∙◌, subst}
use Rattle.std.proofs.lemmas.Bool.{cases_lt, false≢true, leb-false}
use Rattle.std.specs.Prelude.{Contains, IsBitSet}
use Rattle.dnsv_names.specs.Name.{Labels, SameName, IsAtOrBelow}
use Rattle.dnsv_names.specs.Order.{IsBelow}
use Rattle.dnsv_names.specs.Tree.TreeLaws.{at_or_below_or_not, below_or_not, same_or_not}
use Rattle.dnsv_records.specs.Algorithm.{is_supported}
use Rattle.dnsv_records.specs.Dnskey.KeyTag.{key_tag_of}
use Rattle.dnsv_records.specs.Rrsig.Time.{seconds_on}
use Rattle.dnsv_records.specs.declared.dnskey.Dnskey.{Dnskey}
use Rattle.dnsv_records.specs.declared.rrsig.Rrsig.{Rrsig}
use Rattle.dnsv_records.proofs.OneRecord.{one_rrsig}
use Rattle.dnsv_canonical.specs.Index.{numbers_at}
use Rattle.dnsv_canonical.specs.Rdata.{IsSignatureOver, IsWellFormed}
use Rattle.dnsv_canonical.specs.Rrsets.{ReceivedRrset}
use Rattle.dnsv_canonical.specs.SignedData.{signed_label_count}
use Rattle.dnsv_canonical.proofs.OrderLemmas.{each_of}
use Rattle.dnsv_zone_keys.specs.Answers.{IsAnswered, IsKeyAnswer}
use Rattle.dnsv_zone_keys.specs.Keys.{IsKeyPlaced}
use Rattle.dnsv_faults.specs.Signatures.{AreSignatureFaults, IsMeant, IsSignatureAt, expired, not_yet}
use Rattle.dnsv_zone_faults.proofs.lemmas.zones.PlaceLemmas.{contains_at}
use Rattle.dnsv_zone_faults.proofs.lemmas.zones.TrustLemmas.{numbered_among, true_by}
use Rattle.dnsv_zone_faults.proofs.lemmas.zones.InPlaceLemmas.{stands_in}
use Rattle.dnsv_canonical.proofs.NumberLemmas.{each_number, IsOneAt, one_numbered}
use Rattle.dnsv_rrsets.proofs.LawLemmas.{first_appearances_members}
use Rattle.dnsv_canonical.proofs.SignedLemmas.{signed_somehow}
use Rattle.dnsv_mending.specs.declared.facts.signature.KeyAnswer.TheVariants as said
use Rattle.dnsv_mending.specs.declared.facts.signature.SignatureFaults.{SignatureFaults}
use Rattle.dnsv_lines.specs.declared.line.fault.signature.SignatureTimes.{SignatureTimes}
use Rattle.dnsv_chain.specs.Basis.{Basis}
use Rattle.dnsv_verifier.specs.Admissible.{DnskeyRecord, IsAdmissible, IsEntryOf, IsKeyAmong, MaySign, entry_over}
use Rattle.dnsv_verifier.specs.declared.answer.Answer.{Answer}
use Rattle.dnsv_verifier.specs.declared.answer.Answer.TheVariants.{Valid, Invalid, Unknown}
use Rattle.dnsv_verifier.specs.declared.entry.Entry.{Entry}
use Rattle.dnsv_true_reasons.specs.truth.Signatures.{HasAnswer}

-- ---- keys of the evidence

-- the same key, with the owner of its RRset
pub record IsSameKeyAmong (rrsets : List ReceivedRrset) (zone : Labels) (key : DnskeyRecord) : Type 0 where
  pub same : DnskeyRecord
  pub among : IsKeyAmong rrsets same
  pub rdata : same.rdata ≡ key.rdata
  pub dnskey : same.dnskey ≡ key.dnskey
  pub owner : SameName same.owner zone

pub among_placed : (rrsets : List ReceivedRrset) (zone : Labels) (place : ℕ) (key : DnskeyRecord) → IsKeyPlaced rrsets zone place key
    → IsSameKeyAmong rrsets zone key
among_placed rrsets zone place key placed =
    let there : Contains placed.keys key.rdata = contains_at placed.keys place key.rdata placed.at in
    let appears : Contains placed.are.standing key.rdata = (first_appearances_members placed.are.standing key.rdata).0
    (subst (λ (each : List (List ℕ)). Contains each key.rdata) placed.are.once there) in
    let stands = stands_in rrsets (numbers_at rrsets zone 48) placed.are.standing key.rdata placed.are.stand appears in
    let one = each_of (IsOneAt rrsets zone 48) (numbers_at rrsets zone 48) stands.k (each_number rrsets zone 48) stands.listed in
    let set = one_numbered rrsets stands.k one.rrset stands.set one.is_rrset stands.numbered in
    record {
      same = record { owner = stands.set.owner; rdata = key.rdata; dnskey = key.dnskey };
      among = record {
        rrset = stands.set;
        among = numbered_among rrsets stands.k stands.set stands.numbered;
        rtype = subst (λ (r : ReceivedRrset). r.rtype ≡ 48) set one.same_type;
        owner = refl;
        rdata = stands.holds;
        is = placed.read;
      };
      rdata = refl;
      dnskey = refl;
      owner = subst (λ (r : ReceivedRrset). SameName r.owner zone) set one.owner;
    }

-- what is answered under the key is answered under it
pub has_answer : (basis : Basis) (rrset : ReceivedRrset) (rrsig : Rrsig) (place : ℕ) (key : DnskeyRecord) (answer : Answer)
    → IsKeyPlaced basis.rrsets rrsig.signer place key → IsAnswered basis.meaning basis.moment rrset rrsig key answer
    → HasAnswer basis rrset rrsig answer
has_answer basis rrset rrsig place key answer placed answered =
    let of = among_placed basis.rrsets rrsig.signer place key placed in
    let admissible = answered.admissible in record {
      key = of.same;
      among = of.among;
      answered = record {
        admissible = record {
          over = admissible.over;
          timely = admissible.timely;
          signer = admissible.signer;
          unexpanded = admissible.unexpanded;
          zone_key = record {
            owner = of.owner;
            protocol = ap (λ (d : Dnskey). d.protocol) of.dnskey ∙ admissible.zone_key.protocol;
            zone_key = subst (λ (d : Dnskey). IsBitSet d.flags.0 8) (sym of.dnskey) admissible.zone_key.zone_key;
          };
          named = record {
            algorithm = ap (λ (d : Dnskey). d.algorithm.0) of.dnskey ∙ admissible.named.algorithm;
            key_tag = ap (λ (r : List ℕ). key_tag_of r) of.rdata ∙ admissible.named.key_tag;
            supported = admissible.named.supported;
          };
        };
        entry = answered.entry;
        is = record {
          algorithm = answered.is.algorithm;
          key_field = answered.is.key_field ∙ ap (λ (d : Dnskey). d.key) (sym of.dnskey);
          signed_data = answered.is.signed_data;
          signature = answered.is.signature;
        };
        says = answered.says;
      };
    }

-- ---- a signature with which nothing is wrong

pub may_sign : (signer : Labels) (rtype : ℕ) (owner : Labels) → ((MaySign signer rtype owner → ⊥) → ⊥) → MaySign signer rtype owner
may_sign signer rtype owner twice = record {
  above = ⊎_elim (λ (yes : IsAtOrBelow owner signer). yes)
      (λ (no : (IsAtOrBelow owner signer → ⊥)). absurd (twice (λ may. no may.above))) (at_or_below_or_not owner signer);
  ds = λ is. ⊎_elim (λ (yes : IsBelow owner signer). yes)
      (λ (no : (IsBelow owner signer → ⊥)). absurd (twice (λ may. no (may.ds is)))) (below_or_not owner signer);
  dnskey = λ is. ⊎_elim (λ (yes : SameName owner signer). yes)
      (λ (no : (SameName owner signer → ⊥)). absurd (twice (λ may. no (may.dnskey is)))) (same_or_not owner signer);
}

not_late : (limit x : ℕ) (times : SignatureTimes) → (if nat_le limit x then Some times else None) ≡ None → x < limit
not_late limit x times = by (nat_le limit x) refl
  where
    by : (b : Bool) → nat_le limit x ≡ b → (if b then Some times else None) ≡ None → x < limit
    by true e none = absurd (let clash : Some times ≡ None = none in cc clash)
    by false e none = leb-false limit x e

-- none of its faults is so
pub record IsClean (faults : SignatureFaults) : Type 0 where
  pub labels : faults.labels ≡ false
  pub signer : faults.signer ≡ false
  pub expanded : faults.expanded ≡ false
  pub algorithm : faults.algorithm ≡ false
  pub not_yet : faults.not_yet ≡ None
  pub expired : faults.expired ≡ None

module _ (basis : Basis) (rrset : ReceivedRrset) (rrsig : Rrsig) (faults : SignatureFaults)
    (are : AreSignatureFaults basis.moment rrset rrsig faults)
    (clean : IsClean faults) (covered : rrsig.type_covered.0 ≡ rrset.rtype) (key : DnskeyRecord) (meant : IsMeant rrsig key)
    (owner : SameName key.owner rrsig.signer) where
  off : (b : Bool) → b ≡ false → IsTrue b → ⊥
  off b is on = false≢true (sym is ∙ on)

  few : rrsig.labels ≤ signed_label_count rrset.owner
  few = ⊎_elim
      (λ (more : signed_label_count rrset.owner < rrsig.labels). absurd (off faults.labels clean.labels (are.labels.1 more)))
      (λ (few : rrsig.labels ≤ signed_label_count rrset.owner). few)
      (cases_lt (signed_label_count rrset.owner) rrsig.labels)

  pub admissible : IsAdmissible basis.moment rrset rrsig key
  admissible = record {
    over = record { covered = covered; labels = few };
    timely = record {
      begun = not_late (2 ^ 31) (seconds_on rrsig.inception.0 basis.moment) _ (sym are.not_yet ∙ clean.not_yet);
      not_over = not_late (2 ^ 31) (seconds_on basis.moment rrsig.expiration.0) _ (sym are.expired ∙ clean.expired);
    };
    signer = may_sign rrsig.signer rrset.rtype rrset.owner (λ never. off faults.signer clean.signer (are.signer.1 never));
    unexpanded = λ unexpanded expanded. off faults.expanded clean.expanded (are.expanded.1 (unexpanded, expanded));
    zone_key = record { owner = owner; protocol = meant.zone_key.protocol; zone_key = meant.zone_key.zone_key };
    named = record {
      algorithm = meant.named.algorithm;
      key_tag = meant.named.tag;
      supported = true_by (is_supported rrsig.algorithm.0) (λ never. off faults.algorithm clean.algorithm (are.algorithm.1 never));
    };
  }

  -- where a verifier says neither that it is good nor that it is bad, it knows no answer
  pub unknown : IsKeyAnswer basis.meaning basis.moment rrset rrsig key said.Unanswered
      → IsAnswered basis.meaning basis.moment rrset rrsig key Unknown
  unknown neither =
      let signed = (signed_somehow rrset.owner rrset.rtype rrset.rdata rrsig).1 few in
      let entry = entry_over rrsig signed.0 key in
      let is : IsEntryOf rrset rrsig key entry = record { algorithm = refl; key_field = refl; signed_data = signed.1; signature = refl } in
      by entry is (basis.meaning entry) refl
    where
      by : (entry : Entry) → IsEntryOf rrset rrsig key entry → (answer : Answer) → basis.meaning entry ≡ answer
          → IsAnswered basis.meaning basis.moment rrset rrsig key Unknown
      by entry is Valid says = absurd (neither.0 (record { admissible = admissible; entry = entry; is = is; says = says }))
      by entry is Invalid says = absurd (neither.1 (record { admissible = admissible; entry = entry; is = is; says = says }))
      by entry is Unknown says = record { admissible = admissible; entry = entry; is = is; says = says }

-- a signature of an RRset of a capture covers its type
pub covers : (rrset : ReceivedRrset) (s : ℕ) (rrsig : Rrsig) → IsWellFormed rrset → IsSignatureAt rrset s rrsig
    → rrsig.type_covered.0 ≡ rrset.rtype
covers rrset s rrsig formed its =
    let over = each_of (IsSignatureOver rrset.rtype) rrset.signatures its.rdata formed.each_signature
    (numbered_among rrset.signatures s its.rdata its.numbered) in
    ap (λ (r : Rrsig). r.type_covered.0) (one_rrsig its.rdata rrsig over.rrsig its.is over.is) ∙ over.covers
