-- When two lines are the same.
use Rattle.std.specs.Prelude.{◌≡◌, Option, Some, None}
use Rattle.dnsv_names.specs.Name.{Labels, lower_case}
use Rattle.dnsv_lines.specs.declared.line.Line.{Line}
use Rattle.dnsv_lines.specs.declared.line.Line.TheVariants as line
use Rattle.dnsv_lines.specs.declared.line.denial.RecordPlace.{RecordPlace}
use Rattle.dnsv_lines.specs.declared.line.fault.Reason.{Reason}
use Rattle.dnsv_lines.specs.declared.line.fault.Reason.TheVariants as why
use Rattle.dnsv_lines.specs.declared.line.fault.signature.ShownSignature.{ShownSignature}

-- ---- a line with its names in lower case

abbrev pub lower_name : Option Labels → Option Labels
lower_name None = None
lower_name (Some name) = Some (lower_case name)

abbrev pub lower_place : Option RecordPlace → Option RecordPlace
lower_place None = None
lower_place (Some place) = Some (record place { owner = lower_case place.owner })

abbrev pub lower_shown : ShownSignature → ShownSignature
lower_shown shown = record shown { owner = lower_case shown.owner; signer = lower_case shown.signer }

abbrev pub lower_reason : Reason → Reason
lower_reason (why.Zone fault) = why.Zone (record fault { zone = lower_case fault.zone })
lower_reason (why.Entry fault) = why.Entry (record fault { entry = record fault.entry { zone = lower_case fault.entry.zone } })
lower_reason (why.NotSelfSigned key) = why.NotSelfSigned (record key { zone = lower_case key.zone })
lower_reason (why.Unsigned rrset) = why.Unsigned (record rrset { owner = lower_case rrset.owner })
lower_reason (why.Signature fault) = why.Signature (record fault { signature = lower_shown fault.signature })
lower_reason (why.NoCloser closer) = why.NoCloser (record closer { signature = lower_shown closer.signature; name = lower_case closer.name })
lower_reason (why.Dname dname) = why.Dname (record dname { name = lower_case dname.name })
lower_reason (why.Nsec3 fault) = why.Nsec3 (record fault { owner = lower_case fault.owner })
lower_reason (why.Source fault) =
    why.Source (record fault { source = record fault.source { zone = lower_case fault.source.zone }; name = lower_case fault.name })
lower_reason (why.AnswerMissing missing) = why.AnswerMissing (record missing { name = lower_case missing.name; zone = lower_name missing.zone })
lower_reason (why.DenialUnproved denial) = why.DenialUnproved (record denial { name = lower_case denial.name; zone = lower_case denial.zone })
lower_reason (why.NotVouched keys) = why.NotVouched (record keys { zone = lower_case keys.zone })
lower_reason (why.DsUnproved cut) = why.DsUnproved (record cut { name = lower_case cut.name; zone = lower_case cut.zone })

abbrev pub lower_line : Line → Line
lower_line (line.Trusted keys) = line.Trusted (record keys { zone = lower_case keys.zone })
lower_line (line.Signed signed) = line.Signed (record signed { owner = lower_case signed.owner; zone = lower_case signed.zone })
lower_line (line.Proof proof) = line.Proof (record proof { zone = lower_case proof.zone; encloser = lower_name proof.encloser })
lower_line (line.Part part) = line.Part (record part { name = lower_case part.name; by = lower_place part.by })
lower_line (line.Case cut) = line.Case (record cut { name = lower_case cut.name; zone = lower_name cut.zone })
lower_line (line.Unusable ds) = line.Unusable (record ds { owner = lower_case ds.owner })
lower_line (line.Hope kind) = line.Hope kind
lower_line (line.Holds interval) = line.Holds interval
lower_line (line.Reason reason) = line.Reason (lower_reason reason)
lower_line (line.Follows untrusted) = line.Follows (record untrusted { signature = lower_shown untrusted.signature })
lower_line (line.Key key) = line.Key (record key { zone = lower_case key.zone })
lower_line (line.Rrset place) = line.Rrset (record place { owner = lower_case place.owner })

-- two lines are the same but for the case of letters in names (RFC 4343 3): the same in each part once names are in lower case
abbrev pub SameLine : Line → Line → Type 0
SameLine a b = lower_line a ≡ lower_line b
