-- When two lines say the same: the same word of the same numbers.
use Rattle.std.specs.Prelude.{ℕ, ◌&&◌, Option, Some, None, Bool, true, false, nat_eq}
use Rattle.dnsv_canonical.specs.declared.number.RecordNumber.{RecordNumber}
use Rattle.dnsv_canonical.specs.declared.number.SignatureNumber.{SignatureNumber}
use Rattle.dnsv_lines.specs.declared.line.denial.Role.{Role}
use Rattle.dnsv_lines.specs.declared.line.denial.Role.TheVariants as role
use Rattle.dnsv_lines.specs.declared.line.fault.denial.WhyNsec3.{WhyNsec3}
use Rattle.dnsv_lines.specs.declared.line.fault.denial.WhyNsec3.TheVariants as nsec3
use Rattle.dnsv_lines.specs.declared.line.fault.denial.WhySource.{WhySource}
use Rattle.dnsv_lines.specs.declared.line.fault.denial.WhySource.TheVariants as source
use Rattle.dnsv_lines.specs.declared.line.fault.signature.SignatureTimes.{SignatureTimes}
use Rattle.dnsv_lines.specs.declared.line.fault.signature.WhySignature.{WhySignature}
use Rattle.dnsv_lines.specs.declared.line.fault.signature.WhySignature.TheVariants as signature
use Rattle.dnsv_lines.specs.declared.line.fault.zone.EntryNumber.{EntryNumber}
use Rattle.dnsv_lines.specs.declared.line.fault.zone.EntryNumber.TheVariants as number
use Rattle.dnsv_lines.specs.declared.line.fault.zone.WhyEntry.{WhyEntry}
use Rattle.dnsv_lines.specs.declared.line.fault.zone.WhyEntry.TheVariants as entry
use Rattle.dnsv_lines.specs.declared.line.fault.zone.WhyZone.{WhyZone}
use Rattle.dnsv_lines.specs.declared.line.fault.zone.WhyZone.TheVariants as zone
use Rattle.dnsv_mending.specs.declared.told.Told.{Told}
use Rattle.dnsv_mending.specs.declared.told.Told.TheVariants as told
use Rattle.dnsv_remedies.specs.declared.facts.name.AskedName.{AskedName}
use Rattle.dnsv_remedies.specs.declared.facts.name.AskedName.TheVariants as name
use Rattle.dnsv_remedies.specs.declared.facts.name.CutNumber.{CutNumber}
use Rattle.dnsv_remedies.specs.declared.facts.name.SourceNumber.{SourceNumber}
use Rattle.dnsv_remedies.specs.declared.facts.question.DnameFacts.{DnameFacts}
use Rattle.dnsv_remedies.specs.declared.said.Said.{Said}
use Rattle.dnsv_remedies.specs.declared.said.Said.TheVariants as said

-- ---- what lines speak of

abbrev pub is_same_record : RecordNumber → RecordNumber → Bool
is_same_record a b = nat_eq a.rrset b.rrset && nat_eq a.place b.place

abbrev pub is_same_signature : SignatureNumber → SignatureNumber → Bool
is_same_signature a b = nat_eq a.rrset b.rrset && nat_eq a.signature b.signature

abbrev pub is_same_entry : EntryNumber → EntryNumber → Bool
is_same_entry (number.Anchor a) (number.Anchor b) = nat_eq a b
is_same_entry (number.Ds a) (number.Ds b) = is_same_record a b
is_same_entry _ _ = false

abbrev pub is_same_dname : DnameFacts → DnameFacts → Bool
is_same_dname a b = nat_eq a.labels b.labels && nat_eq a.rrset b.rrset

abbrev pub is_same_cut : CutNumber → CutNumber → Bool
is_same_cut a b = nat_eq a.zone b.zone && nat_eq a.name b.name

abbrev pub is_same_number : SourceNumber → SourceNumber → Bool
is_same_number a b = nat_eq a.zone b.zone && nat_eq a.place b.place

abbrev pub is_same_name : AskedName → AskedName → Bool
is_same_name (name.At a) (name.At b) = nat_eq a b
is_same_name (name.Wildcard a) (name.Wildcard b) = nat_eq a b
is_same_name _ _ = false

abbrev pub is_same_speaker : Option ℕ → Option ℕ → Bool
is_same_speaker (Some a) (Some b) = nat_eq a b
is_same_speaker None None = true
is_same_speaker _ _ = false

abbrev pub is_same_times : SignatureTimes → SignatureTimes → Bool
is_same_times a b = nat_eq a.inception.0 b.inception.0 && (nat_eq a.expiration.0 b.expiration.0 && nat_eq a.by b.by)

-- ---- words

abbrev pub is_same_zone : WhyZone → WhyZone → Bool
is_same_zone zone.NoAnchor zone.NoAnchor = true
is_same_zone zone.DnskeyMissing zone.DnskeyMissing = true
is_same_zone zone.DsMissing zone.DsMissing = true
is_same_zone _ _ = false

abbrev pub is_same_why : WhyEntry → WhyEntry → Bool
is_same_why entry.Algorithm entry.Algorithm = true
is_same_why entry.DigestType entry.DigestType = true
is_same_why entry.DigestIgnored entry.DigestIgnored = true
is_same_why entry.KeyMissing entry.KeyMissing = true
is_same_why entry.KeyAlgorithm entry.KeyAlgorithm = true
is_same_why entry.DigestDiffers entry.DigestDiffers = true
is_same_why _ _ = false

abbrev pub is_same_fault : WhySignature → WhySignature → Bool
is_same_fault signature.Labels signature.Labels = true
is_same_fault signature.Signer signature.Signer = true
is_same_fault signature.Expanded signature.Expanded = true
is_same_fault signature.Algorithm signature.Algorithm = true
is_same_fault (signature.NotYet a) (signature.NotYet b) = is_same_times a b
is_same_fault (signature.Expired a) (signature.Expired b) = is_same_times a b
is_same_fault signature.KeyMissing signature.KeyMissing = true
is_same_fault signature.NotZoneKey signature.NotZoneKey = true
is_same_fault signature.Bad signature.Bad = true
is_same_fault signature.Unanswered signature.Unanswered = true
is_same_fault signature.KeyUntrusted signature.KeyUntrusted = true
is_same_fault _ _ = false

abbrev pub is_same_nsec3 : WhyNsec3 → WhyNsec3 → Bool
is_same_nsec3 (nsec3.Iterations a) (nsec3.Iterations b) = nat_eq a.0 b.0
is_same_nsec3 nsec3.Unusable nsec3.Unusable = true
is_same_nsec3 _ _ = false

abbrev pub is_same_role : Role → Role → Bool
is_same_role role.ClosestEncloser role.ClosestEncloser = true
is_same_role role.NextCloser role.NextCloser = true
is_same_role role.Wildcard role.Wildcard = true
is_same_role role.Name role.Name = true
is_same_role role.Cut role.Cut = true
is_same_role _ _ = false

abbrev pub is_same_source : WhySource → WhySource → Bool
is_same_source (source.Delegation a) (source.Delegation b) = is_same_record a b
is_same_source (source.TypeHeld a t) (source.TypeHeld b u) = is_same_record a b && nat_eq t.0 u.0
is_same_source source.MatchMissing source.MatchMissing = true
is_same_source source.EncloserMissing source.EncloserMissing = true
is_same_source (source.CoverMissing a) (source.CoverMissing b) = is_same_role a b
is_same_source _ _ = false

-- ---- lines

abbrev pub is_same_told : Told → Told → Bool
is_same_told (told.Zone v a) (told.Zone w b) = is_same_zone v w && nat_eq a b
is_same_told (told.Entry v a) (told.Entry w b) = is_same_why v w && is_same_entry a b
is_same_told (told.NotSelfSigned a) (told.NotSelfSigned b) = is_same_record a b
is_same_told (told.NotVouched a) (told.NotVouched b) = nat_eq a b
is_same_told (told.Unsigned a) (told.Unsigned b) = nat_eq a b
is_same_told (told.Signature v a) (told.Signature w b) = is_same_fault v w && is_same_signature a b
is_same_told (told.Follows a) (told.Follows b) = is_same_signature a b
is_same_told _ _ = false

abbrev pub is_same : Said → Said → Bool
is_same (said.Trust a) (said.Trust b) = is_same_told a b
is_same (said.NoCloser a n) (said.NoCloser b m) = is_same_signature a b && nat_eq n m
is_same (said.Dname a) (said.Dname b) = is_same_dname a b
is_same (said.DnameHeld n a) (said.DnameHeld m b) = nat_eq n m && is_same_record a b
is_same (said.Nsec3 v a) (said.Nsec3 w b) = is_same_nsec3 v w && is_same_record a b
is_same (said.Source v a n) (said.Source w b m) = is_same_source v w && (is_same_number a b && is_same_name n m)
is_same (said.AnswerMissing a) (said.AnswerMissing b) = is_same_speaker a b
is_same (said.DenialUnproved a) (said.DenialUnproved b) = nat_eq a b
is_same (said.DsUnproved a) (said.DsUnproved b) = is_same_cut a b
is_same _ _ = false
