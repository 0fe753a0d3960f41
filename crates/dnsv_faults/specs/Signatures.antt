-- What is so of a signature (RFC 4035 5.3.1, 5.3.3).
use Rattle.std.specs.Prelude.{◌≡◌, ◌↔◌, ◌<◌, ◌^◌, ℕ, if◌then◌else◌, nat_le, IsTrue, List, Option, Some, None, Contains, length, map}
use Rattle.std.specs.List.{AllByRecursion}
use Rattle.std.specs.List.Sorted.{IsStrictlyIncreasing}
use Rattle.dnsv_records.specs.Algorithm.{is_supported}
use Rattle.dnsv_records.specs.Rrsig.{IsRrsig}
use Rattle.dnsv_records.specs.Rrsig.Time.{seconds_on}
use Rattle.dnsv_records.specs.declared.rrsig.Rrsig.{Rrsig}
use Rattle.dnsv_canonical.specs.Rrsets.{IsNumbered, ReceivedRrset}
use Rattle.dnsv_canonical.specs.SignedData.{IsExpanded, signed_label_count}
use Rattle.dnsv_verifier.specs.Admissible.{DnskeyRecord, MaySign, is_unexpanded}
use Rattle.dnsv_chain.specs.Trusted.{IsSecured}
use Rattle.dnsv_chain.specs.Basis.{Basis}
use Rattle.dnsv_lines.specs.declared.line.fault.signature.SignatureTimes.{SignatureTimes}
use Rattle.dnsv_mending.specs.declared.facts.signature.NamedKey.{NamedKey}
use Rattle.dnsv_mending.specs.declared.facts.signature.SignatureFacts.{SignatureFacts}
use Rattle.dnsv_mending.specs.declared.facts.signature.SignatureFaults.{SignatureFaults}
use Rattle.dnsv_zone_keys.specs.Answers.{IsKeyAnswer}
use Rattle.dnsv_zone_keys.specs.Keys.{HasKeys, IsKeyPlaced, IsNamed, IsZoneKey, NamesKey, NamesZoneKey}

-- ---- what is wrong with it, whichever key made it

-- the signature's times, and how many seconds the moment is off
abbrev pub times_of : Rrsig → ℕ → SignatureTimes
times_of rrsig by = record { inception = rrsig.inception; expiration = rrsig.expiration; by = by }

-- Where the moment is before the inception: by how much (RFC 1982 3.2, RFC 4034 3.1.5). Of two times just 2^31 seconds apart,
-- RFC 1982 3.2 defines neither order: such a moment counts as before an inception, and as behind an expiration, off by 2^31.
abbrev pub not_yet : ℕ → Rrsig → Option SignatureTimes
not_yet moment rrsig =
    if nat_le (2 ^ 31) (seconds_on rrsig.inception.0 moment) then Some (times_of rrsig (seconds_on moment rrsig.inception.0)) else None

-- where it is behind the expiration
abbrev pub expired : ℕ → Rrsig → Option SignatureTimes
expired moment rrsig =
    if nat_le (2 ^ 31) (seconds_on moment rrsig.expiration.0) then Some (times_of rrsig (seconds_on rrsig.expiration.0 moment)) else None

pub record AreSignatureFaults (moment : ℕ) (rrset : ReceivedRrset) (rrsig : Rrsig) (faults : SignatureFaults) : Type 0 where
  -- it counts more labels than the owner has (RFC 4034 3.1.3)
  pub labels : IsTrue faults.labels ↔ (signed_label_count rrset.owner < rrsig.labels)
  -- the signer can't be the zone of the RRset (RFC 4035 2.1, 2.2, 2.4)
  pub signer : IsTrue faults.signer ↔ (¬ MaySign rrsig.signer rrset.rtype rrset.owner)
  -- it is one of a wildcard, which stands for no RRset of the type
  pub expanded : IsTrue faults.expanded ↔ (IsTrue (is_unexpanded rrset.rtype) × IsExpanded rrset.owner rrsig)
  pub algorithm : IsTrue faults.algorithm ↔ (¬ IsTrue (is_supported rrsig.algorithm.0))
  pub not_yet : faults.not_yet ≡ not_yet moment rrsig
  pub expired : faults.expired ≡ expired moment rrsig

-- ---- the keys that it names

-- the key is a zone key, and the signature names it
pub record IsMeant (rrsig : Rrsig) (key : DnskeyRecord) : Type 0 where
  pub named : IsNamed rrsig key
  pub zone_key : IsZoneKey key

-- a zone key of the signer that the signature names, with the answer under it
pub record IsNamedKey (basis : Basis) (rrset : ReceivedRrset) (rrsig : Rrsig) (named : NamedKey) : Type 0 where
  pub key : DnskeyRecord
  pub placed : IsKeyPlaced basis.rrsets rrsig.signer named.key key
  pub meant : IsMeant rrsig key
  pub answered : IsKeyAnswer basis.meaning basis.moment rrset rrsig key named.answer

-- just these, each once, by their places
pub record AreNamedKeys (basis : Basis) (rrset : ReceivedRrset) (rrsig : Rrsig) (keys : List NamedKey) : Type 0 where
  pub rising : IsStrictlyIncreasing (map (λ named. named.key) keys)
  pub each : AllByRecursion (IsNamedKey basis rrset rrsig) keys
  pub all : (place : ℕ) (key : DnskeyRecord) → IsKeyPlaced basis.rrsets rrsig.signer place key → IsMeant rrsig key
      → Contains (map (λ named. named.key) keys) place

-- ---- a signature

-- signature s of the RRset, numbered from 1
pub record IsSignatureAt (rrset : ReceivedRrset) (s : ℕ) (rrsig : Rrsig) : Type 0 where
  pub rdata : List ℕ
  pub numbered : IsNumbered rrset.signatures s rdata
  pub is : IsRrsig rdata rrsig

-- the facts are those of signature s of RRset k
pub record AreSignatureFacts (basis : Basis) (k : ℕ) (rrset : ReceivedRrset) (s : ℕ) (facts : SignatureFacts) : Type 0 where
  pub rrsig : Rrsig
  pub its : IsSignatureAt rrset s rrsig
  pub number : facts.number ≡ record { rrset = k; signature = s }
  pub signer : facts.signer ≡ length rrsig.signer
  -- it is good under a key of a trusted DNSKEY RRset of its signer
  pub signed : IsTrue facts.is_signed ↔ IsSecured basis.meaning basis.moment basis.rrsets basis.anchors k s
  pub faults : AreSignatureFaults basis.moment rrset rrsig facts.faults
  -- its signer has keys, none of which it names
  pub key_missing : IsTrue facts.key_missing ↔ (HasKeys basis.rrsets rrsig.signer × (¬ NamesKey basis.rrsets rrsig))
  -- it names some, none of which a zone may sign with
  pub not_zone_key : IsTrue facts.not_zone_key ↔ (NamesKey basis.rrsets rrsig × (¬ NamesZoneKey basis.rrsets rrsig))
  pub keys : AreNamedKeys basis rrset rrsig facts.keys.items
