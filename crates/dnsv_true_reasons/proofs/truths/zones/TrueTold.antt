-- When what is told by numbers is so.
use Rattle.std.proofs.Common.{◌≡◌, ◌≢◌, ℕ, []}
use Rattle.std.specs.Prelude.{⊤}
use Rattle.dnsv_names.specs.Name.{Labels, rightmost}
use Rattle.dnsv_records.specs.declared.rrsig.Rrsig.{Rrsig}
use Rattle.dnsv_canonical.specs.Rrsets.{IsNumbered, ReceivedRrset}
use Rattle.dnsv_canonical.specs.declared.number.RecordNumber.{RecordNumber}
use Rattle.dnsv_canonical.specs.declared.number.SignatureNumber.{SignatureNumber}
use Rattle.dnsv_chain.specs.Trusted.{IsKeyOf}
use Rattle.dnsv_zone_faults.specs.Dnskeys.{MayBeBy}
use Rattle.dnsv_faults.specs.Signatures.{IsSignatureAt}
use Rattle.dnsv_zone_keys.specs.Vouchers.{IsVoucherFault, Wanted}
use Rattle.dnsv_lines.specs.declared.line.fault.signature.WhySignature.{WhySignature}
use Rattle.dnsv_lines.specs.declared.line.fault.zone.EntryNumber.{EntryNumber}
use Rattle.dnsv_lines.specs.declared.line.fault.zone.WhyEntry.{WhyEntry}
use Rattle.dnsv_mending.specs.declared.told.Told.{Told}
use Rattle.dnsv_mending.specs.declared.told.Told.TheVariants as told
use Rattle.dnsv_trust_reasons.specs.Places.{IsPlaced}
use Rattle.dnsv_chain.specs.Basis.{Basis}
use Rattle.dnsv_verifier.specs.Admissible.{DnskeyRecord, IsSignatureOf}
use Rattle.dnsv_true_reasons.specs.truth.Entries.{IsVoucherOf}
use Rattle.dnsv_true_reasons.specs.truth.Keys.{IsWithoutVoucher}
use Rattle.dnsv_true_reasons.specs.truth.Signatures.{IsSignatureTrue}
use Rattle.dnsv_true_reasons.specs.truth.Zones.{IsZoneTrue}

-- a trust anchor or a DS record
pub record IsEntryTold (basis : Basis) (why : WhyEntry) (number : EntryNumber) : Type 0 where
  pub zone : Labels
  pub wanted : Wanted
  pub vouches : IsVoucherOf basis zone number wanted
  pub is : IsVoucherFault basis.rrsets zone wanted why

-- a key in a DNSKEY RRset
pub record IsKeyTold (basis : Basis) (number : RecordNumber) : Type 0 where
  pub set : ReceivedRrset
  pub numbered : IsNumbered basis.rrsets number.rrset set
  pub key : DnskeyRecord
  pub placed : IsPlaced set number.place key.rdata
  pub stands : IsKeyOf set key
  pub signed : set.signatures ≢ []
  pub none : (rrsig : Rrsig) → IsSignatureOf set rrsig → ¬ MayBeBy basis set key rrsig

pub record IsSetTold (basis : Basis) (k : ℕ) : Type 0 where
  pub set : ReceivedRrset
  pub is : IsWithoutVoucher basis (record { zone = set.owner; rrset = k })
  pub same : IsNumbered basis.rrsets k set

pub record IsUnsignedTold (basis : Basis) (k : ℕ) : Type 0 where
  pub rrset : ReceivedRrset
  pub numbered : IsNumbered basis.rrsets k rrset
  pub none : rrset.signatures ≡ []

pub record IsSignatureTold (basis : Basis) (why : WhySignature) (number : SignatureNumber) : Type 0 where
  pub rrset : ReceivedRrset
  pub numbered : IsNumbered basis.rrsets number.rrset rrset
  pub rrsig : Rrsig
  pub its : IsSignatureAt rrset number.signature rrsig
  pub is : IsSignatureTrue basis rrset rrsig why

-- by the name that is asked for, whose ancestors are told by their numbers of labels
abbrev pub IsTold : Basis → Labels → Told → Type 0
IsTold basis name (told.Zone why n) = IsZoneTrue basis (rightmost name n) why
IsTold basis name (told.Entry why number) = IsEntryTold basis why number
IsTold basis name (told.NotSelfSigned number) = IsKeyTold basis number
IsTold basis name (told.NotVouched k) = IsSetTold basis k
IsTold basis name (told.Unsigned k) = IsUnsignedTold basis k
IsTold basis name (told.Signature why number) = IsSignatureTold basis why number
IsTold basis name (told.Follows number) = ⊤
