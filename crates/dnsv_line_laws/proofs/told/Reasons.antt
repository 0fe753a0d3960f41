-- Each line that says what fails is told by its words, and read back.
use Rattle.std.proofs.Common.{ℕ, cond, Option, Some, None, refl, ap}
use Rattle.dnsv_records.specs.declared.nsec3.Nsec3Parameters.{Nsec3Parameters}
use Rattle.dnsv_records.specs.declared.number.DigestType.{DigestType}
use Rattle.dnsv_names.specs.Name.{Labels}
use Rattle.dnsv_lines.specs.declared.line.Line.TheVariants as line
use Rattle.dnsv_lines.specs.declared.line.fault.Reason.TheVariants as why
use Rattle.dnsv_lines.specs.declared.line.fault.denial.DenialUnproved.{DenialUnproved}
use Rattle.dnsv_lines.specs.declared.line.fault.denial.DnameAbove.{DnameAbove}
use Rattle.dnsv_lines.specs.declared.line.fault.denial.MissingAnswer.{MissingAnswer}
use Rattle.dnsv_lines.specs.declared.line.fault.denial.SourceFault.{SourceFault}
use Rattle.dnsv_lines.specs.declared.line.fault.denial.UnusableNsec3.{UnusableNsec3}
use Rattle.dnsv_lines.specs.declared.line.fault.denial.WhyNsec3.{WhyNsec3}
use Rattle.dnsv_lines.specs.declared.line.fault.denial.WhyNsec3.TheVariants as nsec3
use Rattle.dnsv_lines.specs.declared.line.fault.denial.WhySource.{WhySource}
use Rattle.dnsv_lines.specs.declared.line.fault.denial.WhySource.TheVariants as source
use Rattle.dnsv_lines.specs.declared.line.fault.signature.CloserName.{CloserName}
use Rattle.dnsv_lines.specs.declared.line.fault.signature.SignatureFault.{SignatureFault}
use Rattle.dnsv_lines.specs.declared.line.fault.signature.UnsignedRrset.{UnsignedRrset}
use Rattle.dnsv_lines.specs.declared.line.fault.signature.WhySignature.{WhySignature}
use Rattle.dnsv_lines.specs.declared.line.fault.signature.WhySignature.TheVariants as signature
use Rattle.dnsv_lines.specs.declared.line.fault.zone.DsUnproved.{DsUnproved}
use Rattle.dnsv_lines.specs.declared.line.fault.zone.EntryFault.{EntryFault}
use Rattle.dnsv_lines.specs.declared.line.fault.zone.EntryNumber.{EntryNumber}
use Rattle.dnsv_lines.specs.declared.line.fault.zone.EntryNumber.TheVariants as number
use Rattle.dnsv_lines.specs.declared.line.fault.zone.KeyWithoutSignature.{KeyWithoutSignature}
use Rattle.dnsv_lines.specs.declared.line.fault.zone.KeysNotVouched.{KeysNotVouched}
use Rattle.dnsv_lines.specs.declared.line.fault.zone.WhyEntry.{WhyEntry}
use Rattle.dnsv_lines.specs.declared.line.fault.zone.WhyEntry.TheVariants as entry
use Rattle.dnsv_lines.specs.declared.line.fault.zone.WhyZone.{WhyZone}
use Rattle.dnsv_lines.specs.declared.line.fault.zone.WhyZone.TheVariants as zone
use Rattle.dnsv_lines.specs.declared.line.fault.zone.ZoneFault.{ZoneFault}
use Rattle.dnsv_line_laws.proofs.parts.Digits.{no_letter}
use Rattle.dnsv_line_laws.proofs.told.Rows.{role_clean, role_read}
use Rattle.dnsv_line_laws.proofs.told.Tables.{Told, closer_form, denial_form, dname_form, ds_unproved_form, entry_form, not_self_signed_form, not_vouched_form, nsec3_form, signature_form, source_form, unsigned_form, zone_form}

-- the name that would have to be covered
pub closer_told : (x : CloserName) → Told closer_form (line.Reason (why.NoCloser x))
closer_told x = (refl, refl, refl, refl, refl, refl)

-- an RRset without signatures
pub unsigned_told : (x : UnsignedRrset) → Told unsigned_form (line.Reason (why.Unsigned x))
unsigned_told x = (refl, refl, refl, refl, refl, refl)

-- a key that doesn't sign its RRset
pub not_self_signed_told : (x : KeyWithoutSignature) → Told not_self_signed_form (line.Reason (why.NotSelfSigned x))
not_self_signed_told x = (refl, refl, refl, refl, refl, refl)

-- denials that prove nothing
pub denial_told : (x : DenialUnproved) → Told denial_form (line.Reason (why.DenialUnproved x))
denial_told x = (refl, refl, refl, refl, refl, refl)

-- a DNSKEY RRset of which no trust anchor and no DS record fits a key
pub not_vouched_told : (x : KeysNotVouched) → Told not_vouched_form (line.Reason (why.NotVouched x))
not_vouched_told x = (refl, refl, refl, refl, refl, refl)

-- a delegation that may be unsigned, of which nothing proves it
pub ds_unproved_told : (x : DsUnproved) → Told ds_unproved_form (line.Reason (why.DsUnproved x))
ds_unproved_told x = (refl, refl, refl, refl, refl, refl)

-- what a zone lacks
zone_with : (x : ZoneFault) (y : WhyZone) → Told zone_form (line.Reason (why.Zone (record x { why = y })))
zone_with x zone.NoAnchor = (refl, refl, refl, refl, refl, refl)
zone_with x y = (refl, refl, refl, refl, refl, refl)

pub zone_told : (x : ZoneFault) → Told zone_form (line.Reason (why.Zone x))
zone_told x = zone_with x x.why

-- a DNAME above the name
dname_with : (x : DnameAbove) (given : Option ℕ) → Told dname_form (line.Reason (why.Dname (record x { place = given })))
dname_with x None = (refl, refl, refl, refl, refl, refl)
dname_with x (Some place) = (refl, refl, refl, refl, refl, refl)

pub dname_told : (x : DnameAbove) → Told dname_form (line.Reason (why.Dname x))
dname_told x = dname_with x x.place

-- neither an answer nor a denial
answer_with : (x : MissingAnswer) (given : Option Labels) → Told denial_form (line.Reason (why.AnswerMissing (record x { zone = given })))
answer_with x None = (refl, refl, refl, refl, refl, refl)
answer_with x (Some name) = (refl, refl, refl, refl, refl, refl)

pub answer_told : (x : MissingAnswer) → Told denial_form (line.Reason (why.AnswerMissing x))
answer_told x = answer_with x x.zone

-- an NSEC3 record that can't be used
nsec3_with : (x : UnusableNsec3) (y : WhyNsec3) → Told nsec3_form (line.Reason (why.Nsec3 (record x { why = y })))
nsec3_with x (nsec3.Iterations count) = (refl, refl, refl, refl, refl, refl)
nsec3_with x nsec3.Unusable = (refl, refl, refl, refl, refl, refl)

pub nsec3_told : (x : UnusableNsec3) → Told nsec3_form (line.Reason (why.Nsec3 x))
nsec3_told x = nsec3_with x x.why

-- why a signature proves nothing
signature_with : (x : SignatureFault) (y : WhySignature) → Told signature_form (line.Reason (why.Signature (record x { why = y })))
signature_with x signature.Algorithm = (refl, refl, refl, ap (λ letter. cond letter entry_form signature_form) (no_letter x.signature.rtype.0), refl, refl)
signature_with x signature.KeyMissing = (refl, refl, refl, ap (λ letter. cond letter entry_form signature_form) (no_letter x.signature.rtype.0), refl, refl)
signature_with x y = (refl, refl, refl, refl, refl, refl)

pub signature_told : (x : SignatureFault) → Told signature_form (line.Reason (why.Signature x))
signature_told x = signature_with x x.why

-- a trust anchor or a DS record that matches no key
entry_with : (x : EntryFault) (y : WhyEntry) (n : EntryNumber) (d : Option DigestType) → Told entry_form (line.Reason (why.Entry (record x { why = y; entry = record x.entry { number = n; digest_type = d } })))
entry_with x entry.Algorithm (number.Anchor anchor) None = (refl, refl, refl, refl, refl, refl)
entry_with x entry.Algorithm (number.Anchor anchor) (Some digest) = (refl, refl, refl, refl, refl, refl)
entry_with x entry.Algorithm (number.Ds ds) None = (refl, refl, refl, refl, refl, refl)
entry_with x entry.Algorithm (number.Ds ds) (Some digest) = (refl, refl, refl, refl, refl, refl)
entry_with x y (number.Anchor anchor) None = (refl, refl, refl, refl, refl, refl)
entry_with x y (number.Anchor anchor) (Some digest) = (refl, refl, refl, refl, refl, refl)
entry_with x y (number.Ds ds) None = (refl, refl, refl, refl, refl, refl)
entry_with x y (number.Ds ds) (Some digest) = (refl, refl, refl, refl, refl, refl)

pub entry_told : (x : EntryFault) → Told entry_form (line.Reason (why.Entry x))
entry_told x = entry_with x x.why x.entry.number x.entry.digest_type

-- what keeps the records of a zone from proving a denial
source_with : (x : SourceFault) (y : WhySource) (p : Option Nsec3Parameters) → Told source_form (line.Reason (why.Source (record x { why = y; source = record x.source { parameters = p } })))
source_with x (source.CoverMissing role) None = (refl, refl, rw (role_clean role), refl, refl, rw (role_read role))
source_with x y None = (refl, refl, refl, refl, refl, refl)
source_with x (source.CoverMissing role) (Some parameters) = (refl, refl, rw (role_clean role), refl, refl, rw (role_read role))
source_with x y (Some parameters) = (refl, refl, refl, refl, refl, refl)

pub source_told : (x : SourceFault) → Told source_form (line.Reason (why.Source x))
source_told x = source_with x x.why x.source.parameters
