-- When what is said of a DNSKEY RRset and of a key in it is so (RFC 4035 5.2).
use Rattle.std.specs.Prelude.{◌≡◌, ◌≢◌, []}
use Rattle.dnsv_names.specs.Name.{SameName}
use Rattle.dnsv_records.specs.Dnskey.KeyTag.{key_tag_of}
use Rattle.dnsv_records.specs.declared.rrsig.Rrsig.{Rrsig}
use Rattle.dnsv_canonical.specs.Rrsets.{IsNumbered, ReceivedRrset}
use Rattle.dnsv_chain.specs.Trusted.{IsKeyOf}
use Rattle.dnsv_zone_faults.specs.Dnskeys.{MayBeBy}
use Rattle.dnsv_zone_keys.specs.Vouchers.{Wanted}
use Rattle.dnsv_lines.specs.declared.line.fault.zone.EntryNumber.{EntryNumber}
use Rattle.dnsv_lines.specs.declared.line.fault.zone.KeyWithoutSignature.{KeyWithoutSignature}
use Rattle.dnsv_lines.specs.declared.line.fault.zone.KeysNotVouched.{KeysNotVouched}
use Rattle.dnsv_chain.specs.Basis.{Basis}
use Rattle.dnsv_verifier.specs.Admissible.{DnskeyRecord, IsSignatureOf}
use Rattle.dnsv_true_reasons.specs.truth.Entries.{Fits, IsVoucherOf}

-- The DNSKEY RRset of the zone holds such a key and has signatures, none with its tag and algorithm but such as are good under
-- another key in it.
pub record IsWithoutSignature (basis : Basis) (without : KeyWithoutSignature) : Type 0 where
  pub set : ReceivedRrset
  pub numbered : IsNumbered basis.rrsets without.rrset set
  pub owner : SameName set.owner without.zone
  pub key : DnskeyRecord
  pub stands : IsKeyOf set key
  pub tag : key_tag_of key.rdata ≡ without.key.tag.0
  pub algorithm : key.dnskey.algorithm.0 ≡ without.key.algorithm.0
  pub signed : set.signatures ≢ []
  pub none : (rrsig : Rrsig) → IsSignatureOf set rrsig → ¬ MayBeBy basis set key rrsig

-- no trust anchor and no DS record of the zone fits a key in its DNSKEY RRset, though there are some
pub record IsWithoutVoucher (basis : Basis) (keys : KeysNotVouched) : Type 0 where
  pub set : ReceivedRrset
  pub numbered : IsNumbered basis.rrsets keys.rrset set
  pub rtype : set.rtype ≡ 48
  pub owner : SameName set.owner keys.zone
  pub some : (number : EntryNumber) × (wanted : Wanted) × IsVoucherOf basis keys.zone number wanted
  pub none : (number : EntryNumber) (wanted : Wanted) (key : DnskeyRecord) → IsVoucherOf basis keys.zone number wanted → IsKeyOf set key
      → ¬ Fits basis.rrsets keys.zone wanted key
