-- Lines that say the same are equal.
use Rattle.std.proofs.Common.{◌≡◌, ℕ, ◌&&◌, Bool, true, false, Option, Some, None, nat_eq, refl, ap}
use Rattle.std.proofs.lemmas.Bool.{eq-eqb, eqb-true, false≢true}
use Rattle.dnsv_canonical.specs.declared.number.RecordNumber.{RecordNumber}
use Rattle.dnsv_canonical.specs.declared.number.SignatureNumber.{SignatureNumber}
use Rattle.dnsv_lines.specs.declared.line.denial.Role.{Role}
use Rattle.dnsv_lines.specs.declared.line.denial.Role.TheVariants as role
use Rattle.dnsv_lines.specs.declared.line.fault.denial.WhyNsec3.{WhyNsec3}
use Rattle.dnsv_lines.specs.declared.line.fault.denial.WhyNsec3.TheVariants as nsec3
use Rattle.dnsv_lines.specs.declared.line.fault.denial.WhySource.{WhySource}
use Rattle.dnsv_lines.specs.declared.line.fault.denial.WhySource.TheVariants as source
use Rattle.dnsv_lines.specs.declared.line.fault.signature.SignatureTimes.{SignatureTimes}
use Rattle.dnsv_lines.specs.declared.line.fault.signature.WhySignature.{WhySignature}
use Rattle.dnsv_lines.specs.declared.line.fault.signature.WhySignature.TheVariants as signature
use Rattle.dnsv_lines.specs.declared.line.fault.zone.EntryNumber.{EntryNumber}
use Rattle.dnsv_lines.specs.declared.line.fault.zone.EntryNumber.TheVariants as number
use Rattle.dnsv_lines.specs.declared.line.fault.zone.WhyEntry.{WhyEntry}
use Rattle.dnsv_lines.specs.declared.line.fault.zone.WhyEntry.TheVariants as entry
use Rattle.dnsv_lines.specs.declared.line.fault.zone.WhyZone.{WhyZone}
use Rattle.dnsv_lines.specs.declared.line.fault.zone.WhyZone.TheVariants as zone
use Rattle.dnsv_names.specs.declared.number.RecordType.{RecordType}
use Rattle.dnsv_records.specs.declared.nsec3.Iterations.{Iterations}
use Rattle.dnsv_mending.specs.declared.told.Told.{Told}
use Rattle.dnsv_mending.specs.declared.told.Told.TheVariants as told
use Rattle.dnsv_mending.proofs.Reasons.{both_true as both_parts}
use Rattle.dnsv_remedies.specs.Same.{is_same, is_same_cut, is_same_dname, is_same_entry, is_same_fault, is_same_name, is_same_nsec3, is_same_number, is_same_record, is_same_role, is_same_signature, is_same_source, is_same_speaker, is_same_times, is_same_told, is_same_why, is_same_zone}
use Rattle.dnsv_remedies.specs.declared.facts.name.AskedName.{AskedName}
use Rattle.dnsv_remedies.specs.declared.facts.name.AskedName.TheVariants as name
use Rattle.dnsv_remedies.specs.declared.facts.name.CutNumber.{CutNumber}
use Rattle.dnsv_remedies.specs.declared.facts.name.SourceNumber.{SourceNumber}
use Rattle.dnsv_remedies.specs.declared.facts.question.DnameFacts.{DnameFacts}
use Rattle.dnsv_remedies.specs.declared.said.Said.{Said}
use Rattle.dnsv_remedies.specs.declared.said.Said.TheVariants as said

-- ---- each says the same as itself

number_itself : (n : ℕ) → nat_eq n n ≡ true
number_itself n = eq-eqb n n refl

both_true : (a b : Bool) → a ≡ true → b ≡ true → (a && b) ≡ true
both_true true true h k = refl
both_true true false h k = k
both_true false b h k = h

record_itself : (a : RecordNumber) → is_same_record a a ≡ true
record_itself a = both_true (nat_eq a.rrset a.rrset) (nat_eq a.place a.place) (number_itself a.rrset) (number_itself a.place)

signature_itself : (a : SignatureNumber) → is_same_signature a a ≡ true
signature_itself a = both_true (nat_eq a.rrset a.rrset) (nat_eq a.signature a.signature) (number_itself a.rrset) (number_itself a.signature)

entry_itself : (a : EntryNumber) → is_same_entry a a ≡ true
entry_itself (number.Anchor a) = number_itself a
entry_itself (number.Ds a) = record_itself a

source_itself : (a : SourceNumber) → is_same_number a a ≡ true
source_itself a = both_true (nat_eq a.zone a.zone) (nat_eq a.place a.place) (number_itself a.zone) (number_itself a.place)

name_itself : (a : AskedName) → is_same_name a a ≡ true
name_itself (name.At a) = number_itself a
name_itself (name.Wildcard a) = number_itself a

speaker_itself : (a : Option ℕ) → is_same_speaker a a ≡ true
speaker_itself None = refl
speaker_itself (Some a) = number_itself a

times_itself : (a : SignatureTimes) → is_same_times a a ≡ true
times_itself a = both_true (nat_eq a.inception.0 a.inception.0) (nat_eq a.expiration.0 a.expiration.0 && nat_eq a.by a.by) (number_itself a.inception.0)
    (both_true (nat_eq a.expiration.0 a.expiration.0) (nat_eq a.by a.by) (number_itself a.expiration.0) (number_itself a.by))

zone_itself : (a : WhyZone) → is_same_zone a a ≡ true
zone_itself zone.NoAnchor = refl
zone_itself a = refl

why_itself : (a : WhyEntry) → is_same_why a a ≡ true
why_itself entry.Algorithm = refl
why_itself a = refl

fault_itself : (a : WhySignature) → is_same_fault a a ≡ true
fault_itself (signature.NotYet a) = times_itself a
fault_itself (signature.Expired a) = times_itself a
fault_itself a = refl

nsec3_itself : (a : WhyNsec3) → is_same_nsec3 a a ≡ true
nsec3_itself (nsec3.Iterations a) = number_itself a.0
nsec3_itself nsec3.Unusable = refl

role_itself : (a : Role) → is_same_role a a ≡ true
role_itself role.Cut = refl
role_itself a = refl

lacked_itself : (a : WhySource) → is_same_source a a ≡ true
lacked_itself (source.Delegation a) = record_itself a
lacked_itself (source.TypeHeld a t) = both_true (is_same_record a a) (nat_eq t.0 t.0) (record_itself a) (number_itself t.0)
lacked_itself (source.CoverMissing a) = role_itself a
lacked_itself a = refl

told_itself : (a : Told) → is_same_told a a ≡ true
told_itself (told.Zone v a) = both_true (is_same_zone v v) (nat_eq a a) (zone_itself v) (number_itself a)
told_itself (told.Entry v a) = both_true (is_same_why v v) (is_same_entry a a) (why_itself v) (entry_itself a)
told_itself (told.NotSelfSigned a) = record_itself a
told_itself (told.NotVouched a) = number_itself a
told_itself (told.Unsigned a) = number_itself a
told_itself (told.Signature v a) = both_true (is_same_fault v v) (is_same_signature a a) (fault_itself v) (signature_itself a)
told_itself (told.Follows a) = signature_itself a

pub itself : (a : Said) → is_same a a ≡ true
itself (said.Trust a) = told_itself a
itself (said.NoCloser a n) = both_true (is_same_signature a a) (nat_eq n n) (signature_itself a) (number_itself n)
itself (said.Dname a) = both_true (nat_eq a.labels a.labels) (nat_eq a.rrset a.rrset) (number_itself a.labels) (number_itself a.rrset)
itself (said.DnameHeld n a) = both_true (nat_eq n n) (is_same_record a a) (number_itself n) (record_itself a)
itself (said.Nsec3 v a) = both_true (is_same_nsec3 v v) (is_same_record a a) (nsec3_itself v) (record_itself a)
itself (said.Source v a n) = both_true (is_same_source v v) (is_same_number a a && is_same_name n n) (lacked_itself v)
    (both_true (is_same_number a a) (is_same_name n n) (source_itself a) (name_itself n))
itself (said.AnswerMissing a) = speaker_itself a
itself (said.DenialUnproved a) = number_itself a
itself (said.DsUnproved a) = both_true (nat_eq a.zone a.zone) (nat_eq a.name a.name) (number_itself a.zone) (number_itself a.name)

-- ---- and nothing else

same_record : (a b : RecordNumber) → is_same_record a b ≡ true → a ≡ b
same_record a b h =
    let parts = both_parts (nat_eq a.rrset b.rrset) (nat_eq a.place b.place) h in
    λ i. record { rrset = eqb-true a.rrset b.rrset parts.0 i; place = eqb-true a.place b.place parts.1 i }

same_signature : (a b : SignatureNumber) → is_same_signature a b ≡ true → a ≡ b
same_signature a b h =
    let parts = both_parts (nat_eq a.rrset b.rrset) (nat_eq a.signature b.signature) h in
    λ i. record { rrset = eqb-true a.rrset b.rrset parts.0 i; signature = eqb-true a.signature b.signature parts.1 i }

same_number : (a b : SourceNumber) → is_same_number a b ≡ true → a ≡ b
same_number a b h =
    let parts = both_parts (nat_eq a.zone b.zone) (nat_eq a.place b.place) h in
    λ i. record { zone = eqb-true a.zone b.zone parts.0 i; place = eqb-true a.place b.place parts.1 i }

same_dname : (a b : DnameFacts) → is_same_dname a b ≡ true → a ≡ b
same_dname a b h =
    let parts = both_parts (nat_eq a.labels b.labels) (nat_eq a.rrset b.rrset) h in
    λ i. record { labels = eqb-true a.labels b.labels parts.0 i; rrset = eqb-true a.rrset b.rrset parts.1 i }

same_cut : (a b : CutNumber) → is_same_cut a b ≡ true → a ≡ b
same_cut a b h =
    let parts = both_parts (nat_eq a.zone b.zone) (nat_eq a.name b.name) h in
    λ i. record { zone = eqb-true a.zone b.zone parts.0 i; name = eqb-true a.name b.name parts.1 i }

same_times : (a b : SignatureTimes) → is_same_times a b ≡ true → a ≡ b
same_times a b h =
    let parts = both_parts (nat_eq a.inception.0 b.inception.0) (nat_eq a.expiration.0 b.expiration.0 && nat_eq a.by b.by) h in
    let rest = both_parts (nat_eq a.expiration.0 b.expiration.0) (nat_eq a.by b.by) parts.1 in
    λ i. record {
      inception = record { 0 = eqb-true a.inception.0 b.inception.0 parts.0 i };
      expiration = record { 0 = eqb-true a.expiration.0 b.expiration.0 rest.0 i };
      by = eqb-true a.by b.by rest.1 i;
    }

same_entry : (a b : EntryNumber) → is_same_entry a b ≡ true → a ≡ b
same_entry (number.Anchor a) (number.Anchor b) h = ap number.Anchor (eqb-true a b h)
same_entry (number.Ds a) (number.Ds b) h = ap number.Ds (same_record a b h)
same_entry _ _ h = absurd (false≢true h)

same_name : (a b : AskedName) → is_same_name a b ≡ true → a ≡ b
same_name (name.At a) (name.At b) h = ap name.At (eqb-true a b h)
same_name (name.Wildcard a) (name.Wildcard b) h = ap name.Wildcard (eqb-true a b h)
same_name _ _ h = absurd (false≢true h)

same_speaker : (a b : Option ℕ) → is_same_speaker a b ≡ true → a ≡ b
same_speaker (Some a) (Some b) h = ap Some (eqb-true a b h)
same_speaker None None h = refl
same_speaker _ _ h = absurd (false≢true h)

same_zone : (a b : WhyZone) → is_same_zone a b ≡ true → a ≡ b
same_zone zone.NoAnchor zone.NoAnchor h = refl
same_zone zone.DnskeyMissing zone.DnskeyMissing h = refl
same_zone zone.DsMissing zone.DsMissing h = refl
same_zone _ _ h = absurd (false≢true h)

same_why : (a b : WhyEntry) → is_same_why a b ≡ true → a ≡ b
same_why entry.Algorithm entry.Algorithm h = refl
same_why entry.DigestType entry.DigestType h = refl
same_why entry.DigestIgnored entry.DigestIgnored h = refl
same_why entry.KeyMissing entry.KeyMissing h = refl
same_why entry.KeyAlgorithm entry.KeyAlgorithm h = refl
same_why entry.DigestDiffers entry.DigestDiffers h = refl
same_why _ _ h = absurd (false≢true h)

same_fault : (a b : WhySignature) → is_same_fault a b ≡ true → a ≡ b
same_fault signature.Labels signature.Labels h = refl
same_fault signature.Signer signature.Signer h = refl
same_fault signature.Expanded signature.Expanded h = refl
same_fault signature.Algorithm signature.Algorithm h = refl
same_fault (signature.NotYet a) (signature.NotYet b) h = ap signature.NotYet (same_times a b h)
same_fault (signature.Expired a) (signature.Expired b) h = ap signature.Expired (same_times a b h)
same_fault signature.KeyMissing signature.KeyMissing h = refl
same_fault signature.NotZoneKey signature.NotZoneKey h = refl
same_fault signature.Bad signature.Bad h = refl
same_fault signature.Unanswered signature.Unanswered h = refl
same_fault signature.KeyUntrusted signature.KeyUntrusted h = refl
same_fault _ _ h = absurd (false≢true h)

same_iterations : (a b : Iterations) → nat_eq a.0 b.0 ≡ true → a ≡ b
same_iterations a b h = λ i. record { 0 = eqb-true a.0 b.0 h i }

same_nsec3 : (a b : WhyNsec3) → is_same_nsec3 a b ≡ true → a ≡ b
same_nsec3 (nsec3.Iterations a) (nsec3.Iterations b) h = ap nsec3.Iterations (same_iterations a b h)
same_nsec3 nsec3.Unusable nsec3.Unusable h = refl
same_nsec3 _ _ h = absurd (false≢true h)

same_role : (a b : Role) → is_same_role a b ≡ true → a ≡ b
same_role role.ClosestEncloser role.ClosestEncloser h = refl
same_role role.NextCloser role.NextCloser h = refl
same_role role.Wildcard role.Wildcard h = refl
same_role role.Name role.Name h = refl
same_role role.Cut role.Cut h = refl
same_role _ _ h = absurd (false≢true h)

same_type : (a b : RecordType) → nat_eq a.0 b.0 ≡ true → a ≡ b
same_type a b h = λ i. record { 0 = eqb-true a.0 b.0 h i }

same_source : (a b : WhySource) → is_same_source a b ≡ true → a ≡ b
same_source (source.Delegation a) (source.Delegation b) h = ap source.Delegation (same_record a b h)
same_source (source.TypeHeld a t) (source.TypeHeld b u) h =
    let parts = both_parts (is_same_record a b) (nat_eq t.0 u.0) h in
    λ i. source.TypeHeld (same_record a b parts.0 i) (same_type t u parts.1 i)
same_source source.MatchMissing source.MatchMissing h = refl
same_source source.EncloserMissing source.EncloserMissing h = refl
same_source (source.CoverMissing a) (source.CoverMissing b) h = ap source.CoverMissing (same_role a b h)
same_source _ _ h = absurd (false≢true h)

same_told : (a b : Told) → is_same_told a b ≡ true → a ≡ b
same_told (told.Zone v a) (told.Zone w b) h =
    let parts = both_parts (is_same_zone v w) (nat_eq a b) h in
    λ i. told.Zone (same_zone v w parts.0 i) (eqb-true a b parts.1 i)
same_told (told.Entry v a) (told.Entry w b) h =
    let parts = both_parts (is_same_why v w) (is_same_entry a b) h in
    λ i. told.Entry (same_why v w parts.0 i) (same_entry a b parts.1 i)
same_told (told.NotSelfSigned a) (told.NotSelfSigned b) h = ap told.NotSelfSigned (same_record a b h)
same_told (told.NotVouched a) (told.NotVouched b) h = ap told.NotVouched (eqb-true a b h)
same_told (told.Unsigned a) (told.Unsigned b) h = ap told.Unsigned (eqb-true a b h)
same_told (told.Signature v a) (told.Signature w b) h =
    let parts = both_parts (is_same_fault v w) (is_same_signature a b) h in
    λ i. told.Signature (same_fault v w parts.0 i) (same_signature a b parts.1 i)
same_told (told.Follows a) (told.Follows b) h = ap told.Follows (same_signature a b h)
same_told _ _ h = absurd (false≢true h)

pub same : (a b : Said) → is_same a b ≡ true → a ≡ b
same (said.Trust a) (said.Trust b) h = ap said.Trust (same_told a b h)
same (said.NoCloser a n) (said.NoCloser b m) h =
    let parts = both_parts (is_same_signature a b) (nat_eq n m) h in
    λ i. said.NoCloser (same_signature a b parts.0 i) (eqb-true n m parts.1 i)
same (said.Dname a) (said.Dname b) h = ap said.Dname (same_dname a b h)
same (said.DnameHeld n a) (said.DnameHeld m b) h =
    let parts = both_parts (nat_eq n m) (is_same_record a b) h in
    λ i. said.DnameHeld (eqb-true n m parts.0 i) (same_record a b parts.1 i)
same (said.Nsec3 v a) (said.Nsec3 w b) h =
    let parts = both_parts (is_same_nsec3 v w) (is_same_record a b) h in
    λ i. said.Nsec3 (same_nsec3 v w parts.0 i) (same_record a b parts.1 i)
same (said.Source v a n) (said.Source w b m) h =
    let parts = both_parts (is_same_source v w) (is_same_number a b && is_same_name n m) h in
    let rest = both_parts (is_same_number a b) (is_same_name n m) parts.1 in
    λ i. said.Source (same_source v w parts.0 i) (same_number a b rest.0 i) (same_name n m rest.1 i)
same (said.AnswerMissing a) (said.AnswerMissing b) h = ap said.AnswerMissing (same_speaker a b h)
same (said.DenialUnproved a) (said.DenialUnproved b) h = ap said.DenialUnproved (eqb-true a b h)
same (said.DsUnproved a) (said.DsUnproved b) h = ap said.DsUnproved (same_cut a b h)
same _ _ h = absurd (false≢true h)
