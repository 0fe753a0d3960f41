-- The records of a source are of denials of its zone, and say the same once the zone has secured them.
use Rattle.std.proofs.Common.{ℕ}
use Rattle.dnsv_names.specs.Name.{Labels}
use Rattle.dnsv_canonical.specs.declared.number.RecordNumber.{RecordNumber}
use Rattle.dnsv_chain.specs.Trusted.{IsSecured}
use Rattle.dnsv_denial.specs.gathering.Evidence.{IsSecuredBy}
use Rattle.dnsv_denial.specs.gathering.EvidenceWords.{Chain, evidence_said}
use Rattle.dnsv_denial.specs.gathering.EvidenceWords.Chain.{ByNsec, ByNsec3}
use Rattle.dnsv_gaps.specs.Asking.{Asking}
use Rattle.dnsv_gaps.specs.Denials.{IsDenialNumber}
use Rattle.dnsv_gaps.specs.Sources.{source_said}

-- which signatures count
abbrev pub Secured : Asking → ℕ → ℕ → Type 0
Secured a = IsSecured a.basis.meaning a.basis.moment a.basis.rrsets a.basis.anchors

-- the zone has secured the RRset
abbrev pub IsItsOwn : Asking → Labels → ℕ → Type 0
IsItsOwn a zone k = IsSecuredBy (Secured a) a.basis.rrsets zone k

module _ (a : Asking) (zone : Labels) where
  -- ---- denials

  pub encloser_denial : (chain : Chain) (name : Labels) (n : RecordNumber) → (source_said a zone chain).Encloser name n → IsDenialNumber a zone n.rrset
  encloser_denial ByNsec name n says = says.1.denial
  encloser_denial (ByNsec3 p) name n says = says.1.denial

  pub absent_denial : (chain : Chain) (name : Labels) (n : RecordNumber) → (source_said a zone chain).Absent name n → IsDenialNumber a zone n.rrset
  absent_denial ByNsec name n says = says.1.denial
  absent_denial (ByNsec3 p) name n says = says.1.denial

  pub empty_denial : (chain : Chain) (name : Labels) (n : RecordNumber) → (source_said a zone chain).EmptyNonTerminal name n → IsDenialNumber a zone n.rrset
  empty_denial ByNsec name n says = says.1.denial
  empty_denial (ByNsec3 p) name n says = absurd says

  pub types_denial : (chain : Chain) (name : Labels) (Says : (ℕ → Type 0) → Type 0) (n : RecordNumber) → (source_said a zone chain).TypesAt name Says n
      → IsDenialNumber a zone n.rrset
  types_denial ByNsec name Says n says = says.1.denial
  types_denial (ByNsec3 p) name Says n says = says.1.denial

  pub opted_denial : (chain : Chain) (name : Labels) (n : RecordNumber) → (source_said a zone chain).OptedOut name n → IsDenialNumber a zone n.rrset
  opted_denial ByNsec name n says = absurd says
  opted_denial (ByNsec3 p) name n says = says.1.denial

  -- ---- secured records

  pub encloser_said : (chain : Chain) (name : Labels) (n : RecordNumber) → IsItsOwn a zone n.rrset → (source_said a zone chain).Encloser name n
      → (evidence_said (Secured a) a.basis.rrsets zone chain).Encloser name n
  encloser_said ByNsec name n own says = (says.0, record { is = says.1.is; secured = own }, says.2)
  encloser_said (ByNsec3 p) name n own says = (says.0, record { is = says.1.is; secured = own }, says.2)

  pub absent_said : (chain : Chain) (name : Labels) (n : RecordNumber) → IsItsOwn a zone n.rrset → (source_said a zone chain).Absent name n
      → (evidence_said (Secured a) a.basis.rrsets zone chain).Absent name n
  absent_said ByNsec name n own says = (says.0, record { is = says.1.is; secured = own }, says.2)
  absent_said (ByNsec3 p) name n own says = (says.0, record { is = says.1.is; secured = own }, says.2)

  pub empty_said : (chain : Chain) (name : Labels) (n : RecordNumber) → IsItsOwn a zone n.rrset → (source_said a zone chain).EmptyNonTerminal name n
      → (evidence_said (Secured a) a.basis.rrsets zone chain).EmptyNonTerminal name n
  empty_said ByNsec name n own says = (says.0, record { is = says.1.is; secured = own }, says.2)
  empty_said (ByNsec3 p) name n own says = absurd says

  pub types_said : (chain : Chain) (name : Labels) (Says : (ℕ → Type 0) → Type 0) (n : RecordNumber) → IsItsOwn a zone n.rrset
      → (source_said a zone chain).TypesAt name Says n → (evidence_said (Secured a) a.basis.rrsets zone chain).TypesAt name Says n
  types_said ByNsec name Says n own says = (says.0, record { is = says.1.is; secured = own }, says.2)
  types_said (ByNsec3 p) name Says n own says = (says.0, record { is = says.1.is; secured = own }, says.2)

  pub opted_said : (chain : Chain) (name : Labels) (n : RecordNumber) → IsItsOwn a zone n.rrset → (source_said a zone chain).OptedOut name n
      → (evidence_said (Secured a) a.basis.rrsets zone chain).OptedOut name n
  opted_said ByNsec name n own says = absurd says
  opted_said (ByNsec3 p) name n own says = (says.0, record { is = says.1.is; secured = own }, says.2)

  -- that a name needs no record is said by both
  pub needs_none : (chain : Chain) (name : Labels) → (source_said a zone chain).NeedsNone name → (evidence_said (Secured a) a.basis.rrsets zone chain).NeedsNone name
  needs_none ByNsec name says = says
  needs_none (ByNsec3 p) name says = absurd says
