-- The words of lines: of each case one, and of what fails also the number of its extended DNS error; and what is said of
-- what a line may have or not.
use Rattle.std.specs.Prelude.{ℕ, List, Option, Some, None, codes}
use Rattle.dnsv_message.specs.declared.record.Section.{Section}
use Rattle.dnsv_message.specs.declared.record.Section.TheVariants as section
use Rattle.dnsv_records.specs.declared.nsec3.Nsec3Parameters.{Nsec3Parameters}
use Rattle.dnsv_records.specs.declared.number.DigestType.{DigestType}
use Rattle.dnsv_canonical.specs.declared.number.RecordNumber.{RecordNumber}
use Rattle.dnsv_lines.specs.Sentence.{Said, Name, Number, Rrset, Word, Salt, Nothing, SaidWord, reason}
use Rattle.dnsv_lines.specs.declared.line.Kind.{Kind}
use Rattle.dnsv_lines.specs.declared.line.Kind.TheVariants as kind
use Rattle.dnsv_lines.specs.declared.line.cut.InsecureCase.{InsecureCase}
use Rattle.dnsv_lines.specs.declared.line.cut.InsecureCase.TheVariants as case
use Rattle.dnsv_lines.specs.declared.line.cut.WhyUnusable.{WhyUnusable}
use Rattle.dnsv_lines.specs.declared.line.cut.WhyUnusable.TheVariants as unusable
use Rattle.dnsv_lines.specs.declared.line.denial.Chain.{Chain}
use Rattle.dnsv_lines.specs.declared.line.denial.Chain.TheVariants as chain
use Rattle.dnsv_lines.specs.declared.line.denial.Form.{Form}
use Rattle.dnsv_lines.specs.declared.line.denial.Form.TheVariants as form
use Rattle.dnsv_lines.specs.declared.line.denial.Relation.{Relation}
use Rattle.dnsv_lines.specs.declared.line.denial.Relation.TheVariants as relation
use Rattle.dnsv_lines.specs.declared.line.denial.Role.{Role}
use Rattle.dnsv_lines.specs.declared.line.denial.Role.TheVariants as role
use Rattle.dnsv_lines.specs.declared.line.derivation.Voucher.{Voucher}
use Rattle.dnsv_lines.specs.declared.line.derivation.Voucher.TheVariants as voucher
use Rattle.dnsv_lines.specs.declared.line.fault.denial.WhyNsec3.{WhyNsec3}
use Rattle.dnsv_lines.specs.declared.line.fault.denial.WhyNsec3.TheVariants as nsec3
use Rattle.dnsv_lines.specs.declared.line.fault.denial.WhySource.{WhySource}
use Rattle.dnsv_lines.specs.declared.line.fault.denial.WhySource.TheVariants as source
use Rattle.dnsv_lines.specs.declared.line.fault.signature.WhySignature.{WhySignature}
use Rattle.dnsv_lines.specs.declared.line.fault.signature.WhySignature.TheVariants as signature
use Rattle.dnsv_lines.specs.declared.line.fault.zone.EntryNumber.{EntryNumber}
use Rattle.dnsv_lines.specs.declared.line.fault.zone.EntryNumber.TheVariants as entry_number
use Rattle.dnsv_lines.specs.declared.line.fault.zone.WhyEntry.{WhyEntry}
use Rattle.dnsv_lines.specs.declared.line.fault.zone.WhyEntry.TheVariants as entry
use Rattle.dnsv_lines.specs.declared.line.fault.zone.WhyZone.{WhyZone}
use Rattle.dnsv_lines.specs.declared.line.fault.zone.WhyZone.TheVariants as zone
use Rattle.dnsv_lines.specs.declared.line.denial.RecordPlace.{RecordPlace}

-- ---- one word each

-- a verdict
abbrev pub kind_word : Kind → List ℕ
kind_word kind.SecureAnswer = codes "SecureAnswer"
kind_word kind.SecureAlias = codes "SecureAlias"
kind_word kind.SecureNoName = codes "SecureNoName"
kind_word kind.SecureNoData = codes "SecureNoData"
kind_word kind.Insecure = codes "Insecure"

-- which form stands (RFC 4035 5.4, RFC 5155 8.4 to 8.8)
abbrev pub form_word : Form → List ℕ
form_word form.NoName = codes "no-name"
form_word form.NoData1 = codes "no-data-1"
form_word form.NoData2 = codes "no-data-2"
form_word form.NoData3 = codes "no-data-3"
form_word form.NoData4 = codes "no-data-4"
form_word form.NoCloser = codes "no-closer"
form_word form.OptOut = codes "opt-out"

-- of which type the records are that prove it
abbrev pub chain_word : Chain → List ℕ
chain_word chain.Nsec = codes "nsec"
chain_word chain.Nsec3 = codes "nsec3"

-- what a part is for
abbrev pub role_word : Role → List ℕ
role_word role.ClosestEncloser = codes "closest-encloser"
role_word role.NextCloser = codes "next-closer"
role_word role.Wildcard = codes "wildcard"
role_word role.Name = codes "name"
role_word role.Cut = codes "cut"

-- what a record says of the part's name
abbrev pub relation_word : Relation → List ℕ
relation_word relation.Matched = codes "matched"
relation_word relation.Exists = codes "exists"
relation_word relation.Covered = codes "covered"
relation_word relation.NonTerminal = codes "non-terminal"
relation_word relation.OptOut = codes "opt-out"
relation_word relation.Apex = codes "apex"

-- why a record of a DS RRset can't be used
abbrev pub why_word : WhyUnusable → List ℕ
why_word unusable.Algorithm = codes "algorithm"
why_word unusable.DigestType = codes "digest-type"
why_word unusable.DigestIgnored = codes "digest-ignored"

-- the number of a case
abbrev pub case_number : InsecureCase → ℕ
case_number case.UnsignedDelegation = 1
case_number case.UnusableDs = 2
case_number case.OptOut = 3
case_number case.OptOutWildcard = 4

-- the number of a section, in the order in which a message has them (RFC 1035 4.1)
abbrev pub section_number : Section → ℕ
section_number section.Answer = 1
section_number section.Authority = 2
section_number section.Additional = 3

-- ---- one word each, and the number of its extended DNS error (RFC 8914 4, and 27 of RFC 9276), 0 where none fits

-- 1 unsupported DNSKEY algorithm, 2 unsupported DS digest type, 5 DNSSEC indeterminate, 6 DNSSEC bogus, 7 signature
-- expired, 8 signature not yet valid, 9 DNSKEY missing, 10 RRSIGs missing, 11 no zone key bit set, 12 NSEC missing,
-- 27 unsupported NSEC3 iterations

-- what a zone lacks
abbrev pub zone_word : WhyZone → SaidWord
zone_word zone.NoAnchor = reason (codes "no-anchor") 5
zone_word zone.DnskeyMissing = reason (codes "dnskey-missing") 9
zone_word zone.DsMissing = reason (codes "ds-missing") 12

-- why a trust anchor or a DS record matches no key
abbrev pub entry_word : WhyEntry → SaidWord
entry_word entry.Algorithm = reason (codes "algorithm") 1
entry_word entry.DigestType = reason (codes "digest-type") 2
entry_word entry.DigestIgnored = reason (codes "digest-ignored") 9
entry_word entry.KeyMissing = reason (codes "key-missing") 9
entry_word entry.KeyAlgorithm = reason (codes "key-algorithm") 9
entry_word entry.DigestDiffers = reason (codes "digest-differs") 9

-- why a signature proves nothing
abbrev pub signature_word : WhySignature → SaidWord
signature_word signature.Labels = reason (codes "labels") 6
signature_word signature.Signer = reason (codes "signer") 6
signature_word signature.Expanded = reason (codes "expanded") 6
signature_word signature.Algorithm = reason (codes "algorithm") 1
signature_word (signature.NotYet times) = reason (codes "not-yet") 8
signature_word (signature.Expired times) = reason (codes "expired") 7
signature_word signature.KeyMissing = reason (codes "key-missing") 9
signature_word signature.NotZoneKey = reason (codes "not-zone-key") 11
signature_word signature.Bad = reason (codes "bad") 6
signature_word signature.Unanswered = reason (codes "unanswered") 0
signature_word signature.KeyUntrusted = reason (codes "key-untrusted") 9

-- why an NSEC3 record can't be used
abbrev pub nsec3_word : WhyNsec3 → SaidWord
nsec3_word (nsec3.Iterations iterations) = reason (codes "nsec3-iterations") 27
nsec3_word nsec3.Unusable = reason (codes "nsec3-unusable") 6

-- what keeps the records of a zone from proving a denial
abbrev pub source_word : WhySource → SaidWord
source_word (source.Delegation number) = reason (codes "delegation") 12
source_word (source.TypeHeld number held) = reason (codes "type-held") 12
source_word source.MatchMissing = reason (codes "match-missing") 12
source_word source.EncloserMissing = reason (codes "encloser-missing") 12
source_word (source.CoverMissing role) = reason (codes "cover-missing") 12

-- ---- what is said where a line has it

-- the record of a part: its owner and type, its RRset and its place
abbrev pub owner_said : Option RecordPlace → Said
owner_said None = Nothing
owner_said (Some by) = Name by.owner

abbrev pub rtype_said : Option RecordPlace → Said
rtype_said None = Nothing
rtype_said (Some by) = Number by.rtype.0

abbrev pub rrset_said : Option RecordPlace → Said
rrset_said None = Nothing
rrset_said (Some by) = Rrset by.number.rrset

abbrev pub place_said : Option RecordPlace → Said
place_said None = Nothing
place_said (Some by) = Number by.number.place

-- a record by the number of its RRset and its place
abbrev pub ds_rrset_said : Option RecordNumber → Said
ds_rrset_said None = Nothing
ds_rrset_said (Some ds) = Rrset ds.rrset

abbrev pub ds_place_said : Option RecordNumber → Said
ds_place_said None = Nothing
ds_place_said (Some ds) = Number ds.place

-- what matches a key: a trust anchor by its number, or the RRset and the place of a DS record; and its digest type
abbrev pub anchor_said : Voucher → Said
anchor_said (voucher.KeyAnchor anchor) = Number anchor
anchor_said (voucher.DsAnchor anchor digest_type) = Number anchor
anchor_said (voucher.Ds ds digest_type) = Nothing

abbrev pub voucher_rrset_said : Voucher → Said
voucher_rrset_said (voucher.KeyAnchor anchor) = Nothing
voucher_rrset_said (voucher.DsAnchor anchor digest_type) = Nothing
voucher_rrset_said (voucher.Ds ds digest_type) = Rrset ds.rrset

abbrev pub voucher_place_said : Voucher → Said
voucher_place_said (voucher.KeyAnchor anchor) = Nothing
voucher_place_said (voucher.DsAnchor anchor digest_type) = Nothing
voucher_place_said (voucher.Ds ds digest_type) = Number ds.place

abbrev pub digest_said : Voucher → Said
digest_said (voucher.KeyAnchor anchor) = Nothing
digest_said (voucher.DsAnchor anchor digest_type) = Number digest_type.0
digest_said (voucher.Ds ds digest_type) = Number digest_type.0

-- a trust anchor by its number, or a DS record
abbrev pub entry_anchor_said : EntryNumber → Said
entry_anchor_said (entry_number.Anchor anchor) = Number anchor
entry_anchor_said (entry_number.Ds ds) = Nothing

abbrev pub entry_ds : EntryNumber → Option RecordNumber
entry_ds (entry_number.Anchor anchor) = None
entry_ds (entry_number.Ds ds) = Some ds

abbrev pub entry_digest_said : Option DigestType → Said
entry_digest_said None = Nothing
entry_digest_said (Some digest_type) = Number digest_type.0

-- of a signature that isn't valid at the moment the inception, the expiration, and how many seconds that is off
abbrev pub inception_said : WhySignature → Said
inception_said (signature.NotYet times) = Number times.inception.0
inception_said (signature.Expired times) = Number times.inception.0
inception_said _ = Nothing

abbrev pub expiration_said : WhySignature → Said
expiration_said (signature.NotYet times) = Number times.expiration.0
expiration_said (signature.Expired times) = Number times.expiration.0
expiration_said _ = Nothing

abbrev pub off_said : WhySignature → Said
off_said (signature.NotYet times) = Number times.by
off_said (signature.Expired times) = Number times.by
off_said _ = Nothing

-- how many iterations, where these are too many
abbrev pub iterations_said : WhyNsec3 → Said
iterations_said (nsec3.Iterations iterations) = Number iterations.0
iterations_said nsec3.Unusable = Nothing

-- the records of NSEC of a zone, or those of NSEC3 with the parameters
abbrev pub kind_of : Option Nsec3Parameters → Chain
kind_of None = chain.Nsec
kind_of (Some parameters) = chain.Nsec3

abbrev pub source_iterations_said : Option Nsec3Parameters → Said
source_iterations_said None = Nothing
source_iterations_said (Some parameters) = Number parameters.iterations.0

abbrev pub source_salt_said : Option Nsec3Parameters → Said
source_salt_said None = Nothing
source_salt_said (Some parameters) = Salt parameters.salt

-- what a record that is missing would be for
abbrev pub missing_role_said : WhySource → Said
missing_role_said (source.CoverMissing role) = Word (role_word role)
missing_role_said _ = Nothing

-- of the record that is in the way the RRset, the place, and the type that it has
abbrev pub source_rrset_said : WhySource → Said
source_rrset_said (source.Delegation number) = Rrset number.rrset
source_rrset_said (source.TypeHeld number held) = Rrset number.rrset
source_rrset_said _ = Nothing

abbrev pub source_place_said : WhySource → Said
source_place_said (source.Delegation number) = Number number.place
source_place_said (source.TypeHeld number held) = Number number.place
source_place_said _ = Nothing

abbrev pub held_said : WhySource → Said
held_said (source.TypeHeld number held) = Number held.0
held_said _ = Nothing
