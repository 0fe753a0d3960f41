-- When what is said of an RRset and of its signatures is so (RFC 4035 5.3.1, 5.3.3).
use Rattle.std.specs.Prelude.{◌≡◌, ◌⊎◌, ◌^◌, ◌<◌, ◌≤◌, IsTrue, []}
use Rattle.dnsv_records.specs.Algorithm.{is_supported}
use Rattle.dnsv_records.specs.Rrsig.Time.{seconds_on}
use Rattle.dnsv_records.specs.declared.rrsig.Rrsig.{Rrsig}
use Rattle.dnsv_canonical.specs.Rrsets.{IsNumbered, ReceivedRrset}
use Rattle.dnsv_canonical.specs.SignedData.{IsExpanded, signed_label_count}
use Rattle.dnsv_chain.specs.Trusted.{IsGoodByTrust, IsKeyOf}
use Rattle.dnsv_zone_keys.specs.Answers.{IsAnswered}
use Rattle.dnsv_zone_keys.specs.Keys.{HasKeys, IsNamed, IsZoneKey, NamesKey, NamesZoneKey}
use Rattle.dnsv_faults.specs.Signatures.{IsSignatureAt, times_of}
use Rattle.dnsv_lines.specs.declared.line.fault.signature.SignatureFault.{SignatureFault}
use Rattle.dnsv_lines.specs.declared.line.fault.signature.UnsignedRrset.{UnsignedRrset}
use Rattle.dnsv_lines.specs.declared.line.fault.signature.WhySignature.{WhySignature}
use Rattle.dnsv_lines.specs.declared.line.fault.signature.WhySignature.TheVariants as why
use Rattle.dnsv_trust_reasons.specs.Places.{shown_of}
use Rattle.dnsv_chain.specs.Basis.{Basis}
use Rattle.dnsv_verifier.specs.Admissible.{DnskeyRecord, IsGoodAmong, IsKeyAmong, MaySign, is_unexpanded}
use Rattle.dnsv_verifier.specs.declared.answer.Answer.{Answer}
use Rattle.dnsv_verifier.specs.declared.answer.Answer.TheVariants.{Invalid, Unknown}
use Rattle.dnsv_true_reasons.specs.Ends.{IsTrustedZone}

-- ---- an RRset

-- it has no signatures
pub record IsUnsigned (basis : Basis) (unsigned : UnsignedRrset) : Type 0 where
  pub rrset : ReceivedRrset
  pub numbered : IsNumbered basis.rrsets unsigned.rrset rrset
  pub owner : unsigned.owner ≡ rrset.owner
  pub rtype : unsigned.rtype.0 ≡ rrset.rtype
  pub none : rrset.signatures ≡ []

-- ---- a signature

-- a key of the evidence may be used for it, and under that the verifier says so
pub record HasAnswer (basis : Basis) (rrset : ReceivedRrset) (rrsig : Rrsig) (answer : Answer) : Type 0 where
  pub key : DnskeyRecord
  pub among : IsKeyAmong basis.rrsets key
  pub answered : IsAnswered basis.meaning basis.moment rrset rrsig key answer

-- it is one of a DNSKEY RRset, and names a key in it that no zone may sign with
pub record NamesNoZoneKeyIn (set : ReceivedRrset) (rrsig : Rrsig) : Type 0 where
  pub key : DnskeyRecord
  pub stands : IsKeyOf set key
  pub named : IsNamed rrsig key
  pub no_zone_key : ¬ IsZoneKey key

-- true exactly where
abbrev pub IsSignatureTrue : Basis → ReceivedRrset → Rrsig → WhySignature → Type 0
-- it counts more labels than the owner has (RFC 4034 3.1.3)
IsSignatureTrue basis rrset rrsig why.Labels = signed_label_count rrset.owner < rrsig.labels
-- the signer can't be the zone of the RRset (RFC 4035 2.1, 2.2, 2.4)
IsSignatureTrue basis rrset rrsig why.Signer = ¬ MaySign rrsig.signer rrset.rtype rrset.owner
-- it is one of a wildcard, which stands for no RRset of the type
IsSignatureTrue basis rrset rrsig why.Expanded = IsTrue (is_unexpanded rrset.rtype) × IsExpanded rrset.owner rrsig
IsSignatureTrue basis rrset rrsig why.Algorithm = ¬ IsTrue (is_supported rrsig.algorithm.0)
-- the moment is before the inception, or behind the expiration, by so many seconds (RFC 1982 3.2, RFC 4034 3.1.5)
IsSignatureTrue basis rrset rrsig (why.NotYet times) =
    (2 ^ 31 ≤ seconds_on rrsig.inception.0 basis.moment) × (times ≡ times_of rrsig (seconds_on basis.moment rrsig.inception.0))
IsSignatureTrue basis rrset rrsig (why.Expired times) =
    (2 ^ 31 ≤ seconds_on basis.moment rrsig.expiration.0) × (times ≡ times_of rrsig (seconds_on rrsig.expiration.0 basis.moment))
-- its signer has keys, none of which it names
IsSignatureTrue basis rrset rrsig why.KeyMissing = HasKeys basis.rrsets rrsig.signer × (¬ NamesKey basis.rrsets rrsig)
-- it names some, none of which a zone may sign with; or of a DNSKEY RRset one in it
IsSignatureTrue basis rrset rrsig why.NotZoneKey =
    (NamesKey basis.rrsets rrsig × (¬ NamesZoneKey basis.rrsets rrsig)) ⊎ NamesNoZoneKeyIn rrset rrsig
IsSignatureTrue basis rrset rrsig why.Bad = HasAnswer basis rrset rrsig Invalid
IsSignatureTrue basis rrset rrsig why.Unanswered = HasAnswer basis rrset rrsig Unknown
-- it is good under a key of its signer, which is trusted, and under none that a trusted set holds
IsSignatureTrue basis rrset rrsig why.KeyUntrusted = IsGoodAmong basis.meaning basis.moment basis.rrsets rrset rrsig
    × IsTrustedZone basis rrsig.signer × (¬ IsGoodByTrust basis.meaning basis.moment basis.rrsets basis.anchors rrset rrsig)

-- the word is true of the signature that is shown
pub record IsTrueOfSignature (basis : Basis) (fault : SignatureFault) : Type 0 where
  pub rrset : ReceivedRrset
  pub numbered : IsNumbered basis.rrsets fault.signature.number.rrset rrset
  pub rrsig : Rrsig
  pub its : IsSignatureAt rrset fault.signature.number.signature rrsig
  pub shown : fault.signature ≡ shown_of fault.signature.number rrset rrsig
  pub is : IsSignatureTrue basis rrset rrsig fault.why
