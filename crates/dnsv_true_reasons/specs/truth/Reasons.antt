-- When a reason is so.
use Rattle.std.specs.List.{AllByRecursion}
use Rattle.dnsv_canonical.specs.Rdata.{IsWellFormed}
use Rattle.dnsv_gaps.specs.Asking.{Asking}
use Rattle.dnsv_lines.specs.declared.line.fault.Reason.{Reason}
use Rattle.dnsv_lines.specs.declared.line.fault.Reason.TheVariants as reason
use Rattle.dnsv_true_reasons.specs.truth.Entries.{IsEntryTrue}
use Rattle.dnsv_true_reasons.specs.truth.Keys.{IsWithoutSignature, IsWithoutVoucher}
use Rattle.dnsv_true_reasons.specs.truth.Question.{IsTrueOfCloser, IsTrueOfDenial, IsTrueOfDname, IsTrueOfDs, IsTrueOfMissing}
use Rattle.dnsv_true_reasons.specs.truth.Signatures.{IsTrueOfSignature, IsUnsigned}
use Rattle.dnsv_true_reasons.specs.truth.Sources.{IsTrueOfNsec3, IsTrueOfSource}
use Rattle.dnsv_true_reasons.specs.truth.Zones.{IsZoneTrue}

abbrev pub IsReasonTrue : Asking → Reason → Type 0
IsReasonTrue a (reason.Zone fault) = IsZoneTrue a.basis fault.zone fault.why
IsReasonTrue a (reason.Entry fault) = IsEntryTrue a.basis fault
IsReasonTrue a (reason.NotSelfSigned without) = IsWithoutSignature a.basis without
IsReasonTrue a (reason.NotVouched keys) = IsWithoutVoucher a.basis keys
IsReasonTrue a (reason.Unsigned unsigned) = IsUnsigned a.basis unsigned
IsReasonTrue a (reason.Signature fault) = IsTrueOfSignature a.basis fault
IsReasonTrue a (reason.NoCloser closer) = IsTrueOfCloser a closer
IsReasonTrue a (reason.Dname above) = IsTrueOfDname a above above.place
IsReasonTrue a (reason.Nsec3 unusable) = IsTrueOfNsec3 a unusable
IsReasonTrue a (reason.Source fault) = IsTrueOfSource a fault
IsReasonTrue a (reason.AnswerMissing missing) = IsTrueOfMissing a missing
IsReasonTrue a (reason.DenialUnproved denial) = IsTrueOfDenial a denial
IsReasonTrue a (reason.DsUnproved told) = IsTrueOfDs a told

-- the RRsets of the evidence are such as a capture has them
abbrev pub IsCaptured : Asking → Type 0
IsCaptured a = AllByRecursion IsWellFormed a.basis.rrsets
