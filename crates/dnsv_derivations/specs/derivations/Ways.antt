-- By which anchor or DS record, which key and which signature a DNSKEY RRset is trusted (RFC 4035 5).
use Rattle.std.specs.Prelude.{◌≡◌, ◌≢◌, ◌≤◌, ℕ}
use Rattle.std.specs.declared.cmp.Ordering.TheVariants.{Less}
use Rattle.dnsv_canonical.specs.Canonical.{rdata_cmp}
use Rattle.dnsv_canonical.specs.Rrsets.{IsNumbered, ReceivedRrset}
use Rattle.dnsv_verifier.specs.Admissible.{DnskeyRecord}
use Rattle.dnsv_chain.specs.Trusted.{IsKeyOf, IsSecured, IsTrusted}
use Rattle.dnsv_proof_forms.specs.records.Numbers.{number_cmp}
use Rattle.dnsv_derivations.specs.Explained.{IsTodo, Setting}
use Rattle.dnsv_derivations.specs.Following.{IsGoodUnder, IsMatchedBy, IsNamed}
use Rattle.dnsv_canonical.specs.declared.number.RecordNumber.{RecordNumber}
use Rattle.dnsv_canonical.specs.declared.number.SignatureNumber.{SignatureNumber}
use Rattle.dnsv_lines.specs.declared.line.derivation.SignedRrset.{SignedRrset}
use Rattle.dnsv_lines.specs.declared.line.derivation.TrustedKeys.{TrustedKeys}
use Rattle.dnsv_lines.specs.declared.line.derivation.Voucher.{Voucher}
use Rattle.dnsv_lines.specs.declared.line.derivation.Voucher.TheVariants as voucher

-- a signature of RRset k is good under a trusted key of its signer
abbrev pub HasSecured : Setting → ℕ → Type 0
HasSecured setting k = (s : ℕ) × IsSecured setting.meaning setting.moment setting.rrsets setting.anchors k s

-- DNSKEY RRset k of the evidence is trusted
abbrev pub IsTrustedSet : Setting → ℕ → Type 0
IsTrustedSet setting k =
    (set : ReceivedRrset) × IsNumbered setting.rrsets k set × IsTrusted setting.meaning setting.moment setting.rrsets setting.anchors set

-- what matches a key, the key, and the number of a signature
pub record Way : Type 0 where
  pub voucher : Voucher
  pub key : DnskeyRecord
  pub signature : ℕ

-- A way into DNSKEY RRset k: its signature is good under a key of it, which an anchor matches, or a record of a DS
-- RRset that has a signature which is good under a trusted key.
pub record IsWayInto (setting : Setting) (k : ℕ) (way : Way) : Type 0 where
  pub set : ReceivedRrset
  pub stands : IsKeyOf set way.key
  pub good : IsGoodUnder setting (record { rrset = k; signature = way.signature }) set way.key
  pub matched : IsMatchedBy (HasSecured setting) setting.rrsets setting.anchors way.voucher way.key

-- ---- the first way

-- the record of the RRset at the place, from 1 on; an anchor, where the RRset is 0
abbrev pub record_at : ℕ → ℕ → RecordNumber
record_at rrset place = record { rrset = rrset; place = place }

-- anchors come before DS records, as if they were the records of an RRset 0
abbrev pub voucher_rank : Voucher → RecordNumber
voucher_rank (voucher.KeyAnchor number) = record { rrset = 0; place = number }
voucher_rank (voucher.DsAnchor number digest_type) = record { rrset = 0; place = number }
voucher_rank (voucher.Ds number digest_type) = number

-- A way than which none is earlier: by what matches, anchors by their numbers and DS records by those of their RRsets and
-- then by their places; then by the RDATA of the key as unsigned octets; then by the number of the signature.
pub record IsFirstWay (setting : Setting) (k : ℕ) (way : Way) : Type 0 where
  pub is : IsWayInto setting k way
  pub voucher : (other : Way) → IsWayInto setting k other
      → number_cmp (voucher_rank other.voucher) (voucher_rank way.voucher) ≢ Less
  pub key : (other : Way) → IsWayInto setting k other → other.voucher ≡ way.voucher
      → rdata_cmp other.key.rdata way.key.rdata ≢ Less
  pub signature : (other : Way) → IsWayInto setting k other → other.voucher ≡ way.voucher → other.key ≡ way.key
      → way.signature ≤ other.signature

-- what the line of DNSKEY RRset k says: its first way, and the number of its entry
pub record IsTrustedLine (setting : Setting) (k : ℕ) (keys : TrustedKeys) : Type 0 where
  pub way : Way
  pub first : IsFirstWay setting k way
  pub zone : keys.zone ≡ first.is.set.owner
  pub signature : keys.signature ≡ record { rrset = k; signature = way.signature }
  pub named : IsNamed way.key keys.key
  pub voucher : keys.voucher ≡ way.voucher
  pub todo : IsTodo setting.todo first.is.good.good.entry keys.todo.0

-- ---- the first key of a signature

-- the signature is good under a key of DNSKEY RRset k, which is trusted
pub record IsSigner (setting : Setting) (number : SignatureNumber) (k : ℕ) (key : DnskeyRecord) : Type 0 where
  pub rrset : ReceivedRrset
  pub good : IsGoodUnder setting number rrset key
  pub set : ReceivedRrset
  pub is_set : IsNumbered setting.rrsets k set
  pub stands : IsKeyOf set key
  pub trusted : IsTrusted setting.meaning setting.moment setting.rrsets setting.anchors set

-- no such key has a lower RDATA, and none of this RDATA stands in an earlier RRset
pub record IsFirstSigner (setting : Setting) (number : SignatureNumber) (k : ℕ) (key : DnskeyRecord) : Type 0 where
  pub is : IsSigner setting number k key
  pub lowest : (other : ℕ) (each : DnskeyRecord) → IsSigner setting number other each → rdata_cmp each.rdata key.rdata ≢ Less
  pub earliest : (other : ℕ) (each : DnskeyRecord) → IsSigner setting number other each → each.rdata ≡ key.rdata → k ≤ other

-- what the line of the signature says: its first key, and the number of the entry
pub record IsSignedLine (setting : Setting) (number : SignatureNumber) (signed : SignedRrset) : Type 0 where
  pub key : DnskeyRecord
  pub first : IsFirstSigner setting number signed.keys key
  pub owner : signed.owner ≡ first.is.rrset.owner
  pub rtype : signed.rtype.0 ≡ first.is.rrset.rtype
  pub signature : signed.signature ≡ number
  pub named : IsNamed key signed.key
  pub zone : signed.zone ≡ first.is.set.owner
  pub todo : IsTodo setting.todo first.is.good.good.entry signed.todo.0
