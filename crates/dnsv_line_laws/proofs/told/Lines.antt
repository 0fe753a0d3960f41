-- Each line is told by its words, and read back.
use Rattle.std.proofs.Common.{refl}
use Rattle.dnsv_lines.specs.declared.line.Line.{Line}
use Rattle.dnsv_lines.specs.declared.line.Line.TheVariants as line
use Rattle.dnsv_lines.specs.declared.line.fault.Reason.{Reason}
use Rattle.dnsv_lines.specs.declared.line.fault.Reason.TheVariants as why
use Rattle.dnsv_line_laws.proofs.told.Reasons.{answer_told, closer_told, denial_told, dname_told, ds_unproved_told, entry_told, not_self_signed_told, not_vouched_told, nsec3_told, signature_told, source_told, unsigned_told, zone_told}
use Rattle.dnsv_line_laws.proofs.told.Rows.{case_told, follows_told, holds_told, hope_told, key_told, part_told, proof_told, rrset_told, signed_told, trusted_told, unusable_told}
use Rattle.dnsv_line_laws.proofs.told.Tables.{IsLine, is_line, case_form, closer_form, denial_form, dname_form, ds_unproved_form, entry_form, follows_form, holds_form, hope_form, key_form, not_self_signed_form, not_vouched_form, nsec3_form, part_form, proof_form, rrset_form, signature_form, signed_form, source_form, trusted_form, unsigned_form, unusable_form, zone_form}

-- what fails
pub reason_told : (x : Reason) → IsLine (line.Reason x)
reason_told (why.Zone x) = is_line zone_form _ refl (zone_told x)
reason_told (why.Entry x) = is_line entry_form _ refl (entry_told x)
reason_told (why.NotSelfSigned x) = is_line not_self_signed_form _ refl (not_self_signed_told x)
reason_told (why.Unsigned x) = is_line unsigned_form _ refl (unsigned_told x)
reason_told (why.Signature x) = is_line signature_form _ refl (signature_told x)
reason_told (why.NoCloser x) = is_line closer_form _ refl (closer_told x)
reason_told (why.Dname x) = is_line dname_form _ refl (dname_told x)
reason_told (why.Nsec3 x) = is_line nsec3_form _ refl (nsec3_told x)
reason_told (why.Source x) = is_line source_form _ refl (source_told x)
reason_told (why.AnswerMissing x) = is_line denial_form _ refl (answer_told x)
reason_told (why.DenialUnproved x) = is_line denial_form _ refl (denial_told x)
reason_told (why.NotVouched x) = is_line not_vouched_form _ refl (not_vouched_told x)
reason_told (why.DsUnproved x) = is_line ds_unproved_form _ refl (ds_unproved_told x)

-- each line
pub line_told : (x : Line) → IsLine x
line_told (line.Trusted x) = is_line trusted_form _ refl (trusted_told x)
line_told (line.Signed x) = is_line signed_form _ refl (signed_told x)
line_told (line.Proof x) = is_line proof_form _ refl (proof_told x)
line_told (line.Part x) = is_line part_form _ refl (part_told x)
line_told (line.Case x) = is_line case_form _ refl (case_told x)
line_told (line.Unusable x) = is_line unusable_form _ refl (unusable_told x)
line_told (line.Hope x) = is_line hope_form _ refl (hope_told x)
line_told (line.Holds x) = is_line holds_form _ refl (holds_told x)
line_told (line.Reason x) = reason_told x
line_told (line.Follows x) = is_line follows_form _ refl (follows_told x)
line_told (line.Key x) = is_line key_form _ refl (key_told x)
line_told (line.Rrset x) = is_line rrset_form _ refl (rrset_told x)
