-- The derivation of the signatures by which a zone's records count (RFC 4035 5.3.1, 5.3.4).
use Rattle.std.specs.Prelude.{◌≡◌, ◌≤◌, ℕ, List}
use Rattle.dnsv_names.specs.Name.{Labels}
use Rattle.dnsv_chain.specs.Trust.{IsTrustOf, KeptTrust}
use Rattle.dnsv_chain.specs.Trusted.{IsSecured}
use Rattle.dnsv_denial.specs.gathering.Evidence.{IsSecuredBy}
use Rattle.dnsv_canonical.specs.declared.number.RecordNumber.{RecordNumber}
use Rattle.dnsv_derivations.specs.Explained.{Setting}
use Rattle.dnsv_derivations.specs.derivations.Derivations.{IsDerivation}
use Rattle.dnsv_derivations.specs.derivations.Derivations.Subject.{signature}
use Rattle.dnsv_derivations.specs.Saying.{AreEach}
use Rattle.dnsv_lines.specs.declared.line.Line.{Line}
use Rattle.dnsv_canonical.specs.declared.number.SignatureNumber.{SignatureNumber}

-- signature s of RRset k is good under a trusted key of its signer
abbrev pub SecuredIn : Setting → ℕ → ℕ → Type 0
SecuredIn setting = IsSecured setting.meaning setting.moment setting.rrsets setting.anchors

-- the trust keeps which signatures are so, and the trusted keys of each zone
abbrev pub IsTrustIn : Setting → KeptTrust → Type 0
IsTrustIn setting trust = IsTrustOf setting.meaning setting.moment setting.rrsets setting.anchors trust

-- the signature is derived
abbrev pub IsSignatureTold : Setting → SignatureNumber → List Line → List Line → Type 0
IsSignatureTold setting number before lines = IsDerivation setting before (signature number) lines

-- Signature s of RRset k is good under a trusted key of the zone, which made it, and no wildcard is behind it
-- (RFC 4035 5.3.1, 5.3.4).
abbrev pub IsOwnSignature : Setting → Labels → ℕ → ℕ → Type 0
IsOwnSignature setting zone k s = IsSecuredBy (λ j t. (t ≡ s) × SecuredIn setting j t) setting.rrsets zone k

-- none of RRset k with a lower number is such
pub record IsLowestOwn (setting : Setting) (zone : Labels) (k s : ℕ) : Type 0 where
  pub own : IsOwnSignature setting zone k s
  pub lowest : (t : ℕ) → IsOwnSignature setting zone k t → s ≤ t

-- the derivation of the lowest such signature of RRset k
pub record IsOwnDerivation (setting : Setting) (zone : Labels) (k : ℕ) (before lines : List Line) : Type 0 where
  pub s : ℕ
  pub lowest : IsLowestOwn setting zone k s
  pub derivation : IsDerivation setting before (signature (record { rrset = k; signature = s })) lines

-- that of each record's RRset: of one that has several, once
abbrev pub AreRecordsDerived : Setting → Labels → List RecordNumber → List Line → List Line → Type 0
AreRecordsDerived setting zone = AreEach (λ (number : RecordNumber). IsOwnDerivation setting zone number.rrset)
