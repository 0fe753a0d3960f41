-- What a wildcard's signature asks for beside it: that no closer name is there (RFC 4035 5.3.4, RFC 5155 8.8).
use Rattle.std.specs.Prelude.{◌≡◌, ◌+◌, ◌≤◌, ℕ, Option, Some, None, length}
use Rattle.dnsv_names.specs.Name.{Labels, IsAtOrBelow, rightmost}
use Rattle.dnsv_records.specs.declared.rrsig.Rrsig.{Rrsig}
use Rattle.dnsv_canonical.specs.Rrsets.{ReceivedRrset}
use Rattle.dnsv_canonical.specs.SignedData.{IsExpanded}
use Rattle.dnsv_canonical.specs.declared.number.RecordNumber.{RecordNumber}
use Rattle.dnsv_chain.specs.Trusted.{IsSecured}
use Rattle.dnsv_denial.specs.proving.FirstProof.{CanProveNoCloser}
use Rattle.dnsv_denial.specs.gathering.EvidenceWords.{Chain}
use Rattle.dnsv_faults.specs.Signatures.{IsSignatureAt}
use Rattle.dnsv_verifier.specs.Admissible.{MaySign}
use Rattle.dnsv_remedies.specs.declared.facts.answer.CloserFacts.{CloserFacts}
use Rattle.dnsv_gaps.specs.Asking.{Asking}
use Rattle.dnsv_gaps.specs.Parts.{AreFactsOf}
use Rattle.dnsv_gaps.specs.Sources.{source_said}
use Rattle.dnsv_gaps.specs.Unusable.{AreUnusable}

-- trusted records of the zone prove that no name is closer than its wildcard below the name's so many labels
abbrev pub IsCloserDenied : Asking → ℕ → Labels → Type 0
IsCloserDenied a labels zone =
    CanProveNoCloser (IsSecured a.basis.meaning a.basis.moment a.basis.rrsets a.basis.anchors) a.basis.rrsets a.name labels zone

-- the RRset is expanded by the signature, whose signer is at or above the name, and that isn't proved
pub record IsOpen (a : Asking) (rrset : ReceivedRrset) (rrsig : Rrsig) : Type 0 where
  pub expanded : IsExpanded rrset.owner rrsig
  pub above : IsAtOrBelow a.name rrsig.signer
  pub may : MaySign rrsig.signer rrset.rtype rrset.owner
  pub unproved : ¬ IsCloserDenied a rrsig.labels rrsig.signer

-- A record of a source of the zone with n labels covers the next closer name to the name's so many labels, trusted or not; where
-- the zone has more labels than these, none does.
pub record IsCover (a : Asking) (n labels : ℕ) (number : RecordNumber) : Type 0 where
  pub within : n ≤ labels
  pub chain : Chain
  pub covers : (source_said a (rightmost a.name n) chain).Absent (rightmost a.name (labels + 1)) number

-- what is so of the next closer name, by the records of the signer
pub record AreCloserFacts (a : Asking) (rrsig : Rrsig) (facts : CloserFacts) : Type 0 where
  pub name : facts.name ≡ rrsig.labels + 1
  pub covers : AreFactsOf a.basis (IsCover a (length rrsig.signer) rrsig.labels) facts.covers.items
  pub unusable : AreUnusable a (rightmost a.name (length rrsig.signer)) facts.unusable.items

-- what the signature of the RRset asks for beside it, if anything
abbrev pub IsCloserOf : Asking → ReceivedRrset → Rrsig → Option CloserFacts → Type 0
IsCloserOf a rrset rrsig None = ¬ IsOpen a rrset rrsig
IsCloserOf a rrset rrsig (Some facts) = IsOpen a rrset rrsig × AreCloserFacts a rrsig facts

-- the signature with the number asks for this
pub record HasCloserAt (a : Asking) (rrset : ReceivedRrset) (number : ℕ) (closer : Option CloserFacts) : Type 0 where
  pub rrsig : Rrsig
  pub its : IsSignatureAt rrset number rrsig
  pub is : IsCloserOf a rrset rrsig closer
