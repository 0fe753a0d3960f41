-- Which DNSKEY may be used to verify which signature (RFC 4035 5.3.1), what a verifier is then asked (RFC 4035
-- 5.3.3), and which signatures are good. The evidence is its RRsets.
use Rattle.std.specs.Prelude.{◌≡◌, ◌≤◌, ◌==◌, ℕ, Bool, IsTrue, IsBitSet, List, [], ◌∷◌, Contains, Some}
use Rattle.std.specs.List.{list_any}
use Rattle.dnsv_names.specs.Name.{Labels, SameName, IsAtOrBelow}
use Rattle.dnsv_names.specs.Order.{IsBelow}
use Rattle.dnsv_records.specs.Algorithm.{is_supported}
use Rattle.dnsv_records.specs.Dnskey.{IsDnskey}
use Rattle.dnsv_records.specs.Dnskey.KeyTag.{key_tag_of}
use Rattle.dnsv_records.specs.Rrsig.{IsRrsig}
use Rattle.dnsv_records.specs.Rrsig.Time.{ValidAt}
use Rattle.dnsv_records.specs.declared.dnskey.Dnskey.{Dnskey}
use Rattle.dnsv_records.specs.declared.rrsig.Rrsig.{Rrsig}
use Rattle.dnsv_canonical.specs.Rrsets.{ReceivedRrset}
use Rattle.dnsv_canonical.specs.SignedData.{IsExpanded, IsSignedData, signed_label_count}
use Rattle.dnsv_verifier.specs.declared.answer.Answer.{Answer}
use Rattle.dnsv_verifier.specs.declared.answer.Answer.TheVariants.{Valid}
use Rattle.dnsv_verifier.specs.declared.entry.Entry.{Entry}

-- a DNSKEY record: its owner, its RDATA as received, and what that says
pub record DnskeyRecord : Type 0 where
  pub owner : Labels
  pub rdata : List ℕ
  pub dnskey : Dnskey

-- the signature covers the type of the RRset, and counts no more labels than the owner has
pub record IsOver (rrset : ReceivedRrset) (rrsig : Rrsig) : Type 0 where
  pub covered : rrsig.type_covered.0 ≡ rrset.rtype
  pub labels : rrsig.labels ≤ signed_label_count rrset.owner

-- The signer may be the zone of an RRset of the type at the owner: it is the owner or an ancestor, for DS, which the
-- zone above keeps, an ancestor, and for DNSKEY, which stands at the zone's apex, the owner (RFC 4035 2.1, 2.2, 2.4).
-- Whether a zone cut lies between isn't asked.
pub record MaySign (signer : Labels) (rtype : ℕ) (owner : Labels) : Type 0 where
  pub above : IsAtOrBelow owner signer
  pub ds : rtype ≡ 43 → IsBelow owner signer
  pub dnskey : rtype ≡ 48 → SameName owner signer

-- DS, NSEC, DNSKEY and NSEC3, which no wildcard stands for
abbrev pub unexpanded_types : List ℕ
unexpanded_types = 43 ∷ 47 ∷ 48 ∷ 50 ∷ []

-- whether the type is one of them
abbrev pub is_unexpanded : ℕ → Bool
is_unexpanded rtype = list_any (λ other. other == rtype) unexpanded_types

-- the key is one that the zone named `signer` signs with (RFC 4034 2.1.1, 2.1.2)
pub record IsZoneKeyOf (signer : Labels) (key : DnskeyRecord) : Type 0 where
  pub owner : SameName key.owner signer
  pub protocol : key.dnskey.protocol ≡ 3
  pub zone_key : IsBitSet key.dnskey.flags.0 8

-- the signature names the key, by an algorithm that is supported and by its tag
pub record Names (rrsig : Rrsig) (key : DnskeyRecord) : Type 0 where
  pub algorithm : key.dnskey.algorithm.0 ≡ rrsig.algorithm.0
  pub key_tag : key_tag_of key.rdata ≡ rrsig.key_tag.0
  pub supported : IsTrue (is_supported rrsig.algorithm.0)

-- What RFC 4035 5.3.1 asks of an RRset and a signature alone: some key might verify the signature at the moment.
pub record IsVerifiable (moment : ℕ) (rrset : ReceivedRrset) (rrsig : Rrsig) : Type 0 where
  pub over : IsOver rrset rrsig
  pub timely : ValidAt rrsig.inception.0 rrsig.expiration.0 moment
  pub signer : MaySign rrsig.signer rrset.rtype rrset.owner
  pub unexpanded : IsTrue (is_unexpanded rrset.rtype) → ¬ IsExpanded rrset.owner rrsig

-- what it asks of a signature and a key alone: the key may have made the signature
pub record MayHaveMade (key : DnskeyRecord) (rrsig : Rrsig) : Type 0 where
  pub zone_key : IsZoneKeyOf rrsig.signer key
  pub named : Names rrsig key

-- the key may be used to verify the signature of the RRset at the moment (RFC 4035 5.3.1)
pub record IsAdmissible (moment : ℕ) (rrset : ReceivedRrset) (rrsig : Rrsig) (key : DnskeyRecord) : Type 0 where
  pub over : IsOver rrset rrsig
  pub timely : ValidAt rrsig.inception.0 rrsig.expiration.0 moment
  pub signer : MaySign rrsig.signer rrset.rtype rrset.owner
  pub unexpanded : IsTrue (is_unexpanded rrset.rtype) → ¬ IsExpanded rrset.owner rrsig
  pub zone_key : IsZoneKeyOf rrsig.signer key
  pub named : Names rrsig key

-- the key is a record of a DNSKEY RRset of the evidence, whatever message that came in
pub record IsKeyAmong (rrsets : List ReceivedRrset) (key : DnskeyRecord) : Type 0 where
  pub rrset : ReceivedRrset
  pub among : Contains rrsets rrset
  pub rtype : rrset.rtype ≡ 48
  pub owner : key.owner ≡ rrset.owner
  pub rdata : Contains rrset.rdata key.rdata
  pub is : IsDnskey key.rdata key.dnskey

-- the signature is one of the RRset's
abbrev pub IsSignatureOf : ReceivedRrset → Rrsig → Type 0
IsSignatureOf rrset rrsig = (rdata : List ℕ) × Contains rrset.signatures rdata × IsRrsig rdata rrsig

-- what a verifier is asked of the signature under the key: algorithm, key, signed data and signature
pub record IsEntryOf (rrset : ReceivedRrset) (rrsig : Rrsig) (key : DnskeyRecord) (entry : Entry) : Type 0 where
  pub algorithm : entry.algorithm.0 ≡ rrsig.algorithm.0
  pub key_field : entry.key ≡ key.dnskey.key
  pub signed_data : IsSignedData rrset.owner rrset.rtype rrset.rdata rrsig (Some entry.signed_data)
  pub signature : entry.signature ≡ rrsig.signature

-- what a verifier is asked of the signature over the octets, under the key
abbrev pub entry_over : Rrsig → List ℕ → DnskeyRecord → Entry
entry_over rrsig octets key = record {
  algorithm = rrsig.algorithm;
  key = key.dnskey.key;
  signed_data = octets;
  signature = rrsig.signature;
}

-- the signature of the RRset is good under the key: the key may be used, and the verifier says Valid
pub record IsGood (meaning : Entry → Answer) (moment : ℕ) (rrset : ReceivedRrset) (rrsig : Rrsig) (key : DnskeyRecord)
    : Type 0 where
  pub admissible : IsAdmissible moment rrset rrsig key
  pub entry : Entry
  pub is : IsEntryOf rrset rrsig key entry
  pub valid : meaning entry ≡ Valid

-- the signature is good under a key of the evidence
abbrev pub IsGoodAmong : (Entry → Answer) → ℕ → List ReceivedRrset → ReceivedRrset → Rrsig → Type 0
IsGoodAmong meaning moment rrsets rrset rrsig =
    (key : DnskeyRecord) × IsKeyAmong rrsets key × IsGood meaning moment rrset rrsig key

-- the entry is that of a signature and a key of the evidence that may be used for it at the moment
pub record IsAsked (moment : ℕ) (rrsets : List ReceivedRrset) (entry : Entry) : Type 0 where
  pub rrset : ReceivedRrset
  pub rrsig : Rrsig
  pub key : DnskeyRecord
  pub among : Contains rrsets rrset
  pub its : IsSignatureOf rrset rrsig
  pub key_among : IsKeyAmong rrsets key
  pub admissible : IsAdmissible moment rrset rrsig key
  pub is : IsEntryOf rrset rrsig key entry
