-- The derivation of a signature or of a DNSKEY RRset: the lines from a trust anchor down to it, but for what was said
-- before (RFC 4035 5).
use Rattle.std.specs.Prelude.{◌≡◌, ◌≤◌, ℕ, List, [], ◌∷◌, ◌++◌}
use Rattle.dnsv_chain.specs.Trusted.{IsSecured}
use Rattle.dnsv_canonical.specs.declared.number.RecordNumber.{RecordNumber}
use Rattle.dnsv_records.specs.declared.number.DigestType.{DigestType}
use Rattle.dnsv_derivations.specs.Explained.{Setting}
use Rattle.dnsv_derivations.specs.Following.{IsSaidTrusted, IsSignatureSaid}
use Rattle.dnsv_derivations.specs.derivations.Ways.{IsSignedLine, IsTrustedLine}
use Rattle.dnsv_lines.specs.declared.line.Line.{Line}
use Rattle.dnsv_lines.specs.declared.line.Line.TheVariants as line
use Rattle.dnsv_canonical.specs.declared.number.SignatureNumber.{SignatureNumber}
use Rattle.dnsv_lines.specs.declared.line.derivation.SignedRrset.{SignedRrset}
use Rattle.dnsv_lines.specs.declared.line.derivation.TrustedKeys.{TrustedKeys}
use Rattle.dnsv_lines.specs.declared.line.derivation.Voucher.{Voucher}
use Rattle.dnsv_lines.specs.declared.line.derivation.Voucher.TheVariants as voucher

-- s is the lowest number of a signature of RRset k that is good under a trusted key
pub record IsLowestSecured (setting : Setting) (k s : ℕ) : Type 0 where
  pub secured : IsSecured setting.meaning setting.moment setting.rrsets setting.anchors k s
  pub lowest : (t : ℕ) → IsSecured setting.meaning setting.moment setting.rrsets setting.anchors k t → s ≤ t

-- it is an anchor that matches
abbrev pub IsByAnchor : Voucher → Type 0
IsByAnchor (voucher.Ds number digest_type) = ⊥
IsByAnchor _ = Unit {0}

-- what is derived: that a DNSKEY RRset is trusted, or that a signature is good under a trusted key
pub data Subject : Type 0 where
  keys : ℕ → Subject
  signature : SignatureNumber → Subject

-- The lines that derive it. Of what was said before there are none. Before the line of a DNSKEY RRset that a DS record
-- leads to stands the derivation of the DS RRset's lowest signature, and before the line of a signature that of the
-- DNSKEY RRset with its key.
pub data IsDerivation (setting : Setting) (before : List Line) : Subject → List Line → Type 0 where
  said_trusted : {k : ℕ} → IsSaidTrusted before k → IsDerivation setting before (keys k) []
  anchored : {k : ℕ} {trusted : TrustedKeys}
      → ¬ IsSaidTrusted before k
      → IsTrustedLine setting k trusted
      → IsByAnchor trusted.voucher
      → IsDerivation setting before (keys k) (line.Trusted trusted ∷ [])
  delegated : {k s : ℕ} {trusted : TrustedKeys} {number : RecordNumber} {digest_type : DigestType} {lines : List Line}
      → ¬ IsSaidTrusted before k
      → IsTrustedLine setting k trusted
      → trusted.voucher ≡ voucher.Ds number digest_type
      → IsLowestSecured setting number.rrset s
      → IsDerivation setting before (signature (record { rrset = number.rrset; signature = s })) lines
      → IsDerivation setting before (keys k) (lines ++ line.Trusted trusted ∷ [])
  said_signed : {number : SignatureNumber} → IsSignatureSaid before number
      → IsDerivation setting before (signature number) []
  signed : {number : SignatureNumber} {signed : SignedRrset} {lines : List Line}
      → ¬ IsSignatureSaid before number
      → IsSignedLine setting number signed
      → IsDerivation setting before (keys signed.keys) lines
      → IsDerivation setting before (signature number) (lines ++ line.Signed signed ∷ [])
