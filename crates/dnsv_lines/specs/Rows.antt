-- What stands for each line: one row a line, with its word and its fields.
use Rattle.std.specs.Prelude.{ℕ, List, [], ◌∷◌, ◌++◌, codes}
use Rattle.dnsv_lines.specs.Sentence.{Name, Number, Rrset, Word, SaidField, SaidSentence, follows_sentence, given_name, given_number, json_of_sentence, plain, plain_sentence, reason, reason_sentence, rrsets_of_sentence, same, text_of_sentence, under}
use Rattle.dnsv_lines.specs.Words.{anchor_said, case_number, chain_word, digest_said, ds_place_said, ds_rrset_said, entry_anchor_said, entry_digest_said, entry_ds, entry_word, expiration_said, form_word, held_said, inception_said, iterations_said, kind_of, kind_word, missing_role_said, nsec3_word, off_said, owner_said, place_said, relation_word, role_word, rrset_said, rtype_said, section_number, signature_word, source_iterations_said, source_place_said, source_rrset_said, source_salt_said, source_word, voucher_place_said, voucher_rrset_said, why_word, zone_word}
use Rattle.dnsv_lines.specs.declared.line.Kind.{Kind}
use Rattle.dnsv_lines.specs.declared.line.Line.{Line}
use Rattle.dnsv_lines.specs.declared.line.Line.TheVariants as line
use Rattle.dnsv_lines.specs.declared.line.cut.Cut.{Cut}
use Rattle.dnsv_lines.specs.declared.line.cut.UnusableDs.{UnusableDs}
use Rattle.dnsv_lines.specs.declared.line.denial.Part.{Part}
use Rattle.dnsv_lines.specs.declared.line.denial.Proof.{Proof}
use Rattle.dnsv_lines.specs.declared.line.derivation.SignedRrset.{SignedRrset}
use Rattle.dnsv_lines.specs.declared.line.derivation.TrustedKeys.{TrustedKeys}
use Rattle.dnsv_lines.specs.declared.line.fault.Reason.{Reason}
use Rattle.dnsv_lines.specs.declared.line.fault.Reason.TheVariants as why
use Rattle.dnsv_lines.specs.declared.line.fault.denial.DenialUnproved.{DenialUnproved}
use Rattle.dnsv_lines.specs.declared.line.fault.denial.DnameAbove.{DnameAbove}
use Rattle.dnsv_lines.specs.declared.line.fault.denial.MissingAnswer.{MissingAnswer}
use Rattle.dnsv_lines.specs.declared.line.fault.denial.SourceFault.{SourceFault}
use Rattle.dnsv_lines.specs.declared.line.fault.denial.UnusableNsec3.{UnusableNsec3}
use Rattle.dnsv_lines.specs.declared.line.fault.key.ShownKey.{ShownKey}
use Rattle.dnsv_lines.specs.declared.line.fault.signature.CloserName.{CloserName}
use Rattle.dnsv_lines.specs.declared.line.fault.signature.ShownSignature.{ShownSignature}
use Rattle.dnsv_lines.specs.declared.line.fault.signature.SignatureFault.{SignatureFault}
use Rattle.dnsv_lines.specs.declared.line.fault.signature.UnsignedRrset.{UnsignedRrset}
use Rattle.dnsv_lines.specs.declared.line.fault.signature.UntrustedSigner.{UntrustedSigner}
use Rattle.dnsv_lines.specs.declared.line.fault.zone.DsUnproved.{DsUnproved}
use Rattle.dnsv_lines.specs.declared.line.fault.zone.EntryFault.{EntryFault}
use Rattle.dnsv_lines.specs.declared.line.fault.zone.KeyWithoutSignature.{KeyWithoutSignature}
use Rattle.dnsv_lines.specs.declared.line.fault.zone.KeysNotVouched.{KeysNotVouched}
use Rattle.dnsv_lines.specs.declared.line.fault.zone.ZoneFault.{ZoneFault}
use Rattle.dnsv_lines.specs.declared.line.interval.Interval.{Interval}
use Rattle.dnsv_lines.specs.declared.line.place.RrsetPlace.{RrsetPlace}

-- ---- what holds

-- a DNSKEY RRset that is trusted, and what matches its key
abbrev pub trusted_row : TrustedKeys → SaidSentence
trusted_row keys = plain_sentence (codes "trusted") (
    plain (codes "zone") (Name keys.zone)
    ∷ same (codes "rrset") (Rrset keys.signature.rrset)
    ∷ same (codes "signature") (Number keys.signature.signature)
    ∷ under (codes "key") (codes "tag") (Number keys.key.tag.0)
    ∷ plain (codes "algorithm") (Number keys.key.algorithm.0)
    ∷ same (codes "anchor") (anchor_said keys.voucher)
    ∷ under (codes "ds") (codes "ds_rrset") (voucher_rrset_said keys.voucher)
    ∷ plain (codes "ds_record") (voucher_place_said keys.voucher)
    ∷ under (codes "digest") (codes "digest_type") (digest_said keys.voucher)
    ∷ same (codes "todo") (given_number keys.todo.0) ∷ [])

-- a signature that is good under a trusted key
abbrev pub signed_row : SignedRrset → SaidSentence
signed_row signed = plain_sentence (codes "signed") (
    plain (codes "owner") (Name signed.owner)
    ∷ plain (codes "type") (Number signed.rtype.0)
    ∷ same (codes "rrset") (Rrset signed.signature.rrset)
    ∷ same (codes "signature") (Number signed.signature.signature)
    ∷ under (codes "key") (codes "tag") (Number signed.key.tag.0)
    ∷ plain (codes "algorithm") (Number signed.key.algorithm.0)
    ∷ under (codes "zone") (codes "signer") (Name signed.zone)
    ∷ same (codes "keys") (Rrset signed.keys)
    ∷ same (codes "todo") (given_number signed.todo.0) ∷ [])

-- records of a zone prove a denial
abbrev pub proof_row : Proof → SaidSentence
proof_row proof = plain_sentence (codes "proof") (
    plain (codes "form") (Word (form_word proof.form))
    ∷ plain (codes "kind") (Word (chain_word proof.chain))
    ∷ same (codes "zone") (Name proof.zone)
    ∷ same (codes "encloser") (given_name proof.encloser) ∷ [])

-- one part of it, and the record that says it, where one is needed
abbrev pub part_row : Part → SaidSentence
part_row part = plain_sentence (codes "part") (
    plain (codes "role") (Word (role_word part.role))
    ∷ plain (codes "relation") (Word (relation_word part.relation))
    ∷ plain (codes "name") (Name part.name)
    ∷ under (codes "by") (codes "owner") (owner_said part.by)
    ∷ plain (codes "type") (rtype_said part.by)
    ∷ same (codes "rrset") (rrset_said part.by)
    ∷ same (codes "record") (place_said part.by) ∷ [])

-- the name at which an unsigned zone may begin
abbrev pub case_row : Cut → SaidSentence
case_row cut = plain_sentence (codes "case") (
    plain (codes "case") (Number (case_number cut.case))
    ∷ same (codes "cut") (Name cut.name)
    ∷ same (codes "zone") (given_name cut.zone) ∷ [])

-- a record of a DS RRset that can't be used
abbrev pub unusable_row : UnusableDs → SaidSentence
unusable_row ds = plain_sentence (codes "unusable") (
    plain (codes "why") (Word (why_word ds.why))
    ∷ plain (codes "owner") (Name ds.owner)
    ∷ same (codes "rrset") (Rrset ds.number.rrset)
    ∷ same (codes "record") (Number ds.number.place)
    ∷ under (codes "wants") (codes "tag") (Number ds.key.tag.0)
    ∷ plain (codes "algorithm") (Number ds.key.algorithm.0)
    ∷ under (codes "digest") (codes "digest_type") (Number ds.digest_type.0) ∷ [])

-- a verdict that is hoped for
abbrev pub hope_row : Kind → SaidSentence
hope_row kind = plain_sentence (codes "hope") (
    plain (codes "kind") (Word (kind_word kind)) ∷ [])

-- the moments at which signatures are valid
abbrev pub holds_row : Interval → SaidSentence
holds_row interval = plain_sentence (codes "holds") (
    same (codes "from") (Number interval.from)
    ∷ same (codes "to") (Number interval.to) ∷ [])

-- a DNSKEY record, with what is good under it and what matches it
abbrev pub key_row : ShownKey → SaidSentence
key_row shown = plain_sentence (codes "key") (
    plain (codes "zone") (Name shown.zone)
    ∷ same (codes "rrset") (Rrset shown.number.rrset)
    ∷ same (codes "record") (Number shown.number.place)
    ∷ same (codes "tag") (Number shown.key.tag.0)
    ∷ same (codes "algorithm") (Number shown.key.algorithm.0)
    ∷ same (codes "flags") (Number shown.flags.0)
    ∷ same (codes "signature") (given_number shown.signature)
    ∷ same (codes "anchor") (given_number shown.anchor)
    ∷ under (codes "ds") (codes "ds_rrset") (ds_rrset_said shown.ds)
    ∷ plain (codes "ds_record") (ds_place_said shown.ds) ∷ [])

-- where an RRset stands
abbrev pub rrset_row : RrsetPlace → SaidSentence
rrset_row place = plain_sentence (codes "rrset") (
    plain (codes "rrset") (Number place.rrset)
    ∷ same (codes "message") (Number place.message)
    ∷ same (codes "section") (Number (section_number place.section))
    ∷ plain (codes "owner") (Name place.owner)
    ∷ plain (codes "type") (Number place.rtype.0) ∷ [])

-- ---- what fails

-- a signature of an RRset, with the key that it names
abbrev pub shown_fields : ShownSignature → List SaidField
shown_fields shown =
    plain (codes "owner") (Name shown.owner)
    ∷ plain (codes "type") (Number shown.rtype.0)
    ∷ same (codes "rrset") (Rrset shown.number.rrset)
    ∷ same (codes "signature") (Number shown.number.signature)
    ∷ under (codes "key") (codes "tag") (Number shown.key.tag.0)
    ∷ plain (codes "algorithm") (Number shown.key.algorithm.0)
    ∷ under (codes "zone") (codes "signer") (Name shown.signer) ∷ []

-- why it proves nothing
abbrev pub signature_fault_row : SignatureFault → SaidSentence
signature_fault_row fault = reason_sentence (signature_word fault.why) (shown_fields fault.signature ++ (
    under (codes "from") (codes "inception") (inception_said fault.why)
    ∷ under (codes "to") (codes "expiration") (expiration_said fault.why)
    ∷ same (codes "by") (off_said fault.why) ∷ []))

-- the name that would have to be covered
abbrev pub closer_row : CloserName → SaidSentence
closer_row closer = reason_sentence (reason (codes "no-closer") 12) (shown_fields closer.signature ++ (
    same (codes "name") (Name closer.name) ∷ []))

-- a signature whose signer isn't trusted
abbrev pub untrusted_row : UntrustedSigner → SaidSentence
untrusted_row untrusted = follows_sentence (codes "untrusted") (shown_fields untrusted.signature)

-- an RRset without signatures
abbrev pub unsigned_row : UnsignedRrset → SaidSentence
unsigned_row unsigned = reason_sentence (reason (codes "unsigned") 10) (
    plain (codes "owner") (Name unsigned.owner)
    ∷ plain (codes "type") (Number unsigned.rtype.0)
    ∷ same (codes "rrset") (Rrset unsigned.rrset) ∷ [])

-- what a zone lacks
abbrev pub zone_fault_row : ZoneFault → SaidSentence
zone_fault_row fault = reason_sentence (zone_word fault.why) (
    plain (codes "zone") (Name fault.zone) ∷ [])

-- a trust anchor or a DS record that matches no key, and the key that it asks for
abbrev pub entry_fault_row : EntryFault → SaidSentence
entry_fault_row fault = reason_sentence (entry_word fault.why) (
    plain (codes "zone") (Name fault.entry.zone)
    ∷ same (codes "anchor") (entry_anchor_said fault.entry.number)
    ∷ same (codes "rrset") (ds_rrset_said (entry_ds fault.entry.number))
    ∷ same (codes "record") (ds_place_said (entry_ds fault.entry.number))
    ∷ under (codes "wants") (codes "tag") (Number fault.entry.key.tag.0)
    ∷ plain (codes "algorithm") (Number fault.entry.key.algorithm.0)
    ∷ under (codes "digest") (codes "digest_type") (entry_digest_said fault.entry.digest_type) ∷ [])

-- a key that doesn't sign its RRset
abbrev pub not_self_signed_row : KeyWithoutSignature → SaidSentence
not_self_signed_row key = reason_sentence (reason (codes "not-self-signed") 10) (
    plain (codes "zone") (Name key.zone)
    ∷ same (codes "rrset") (Rrset key.rrset)
    ∷ under (codes "key") (codes "tag") (Number key.key.tag.0)
    ∷ plain (codes "algorithm") (Number key.key.algorithm.0) ∷ [])

-- a DNAME above the name
abbrev pub dname_row : DnameAbove → SaidSentence
dname_row dname = reason_sentence (reason (codes "dname") 0) (
    plain (codes "name") (Name dname.name)
    ∷ same (codes "rrset") (Rrset dname.rrset)
    ∷ same (codes "record") (given_number dname.place) ∷ [])

-- an NSEC3 record that can't be used
abbrev pub nsec3_row : UnusableNsec3 → SaidSentence
nsec3_row fault = reason_sentence (nsec3_word fault.why) (
    plain (codes "owner") (Name fault.owner)
    ∷ plain (codes "type") (Number 50)
    ∷ same (codes "rrset") (Rrset fault.number.rrset)
    ∷ same (codes "record") (Number fault.number.place)
    ∷ same (codes "iterations") (iterations_said fault.why) ∷ [])

-- what keeps the records of a zone from proving a denial, and at which name
abbrev pub source_fault_row : SourceFault → SaidSentence
source_fault_row fault = reason_sentence (source_word fault.why) (
    plain (codes "kind") (Word (chain_word (kind_of fault.source.parameters)))
    ∷ plain (codes "zone") (Name fault.source.zone)
    ∷ same (codes "iterations") (source_iterations_said fault.source.parameters)
    ∷ same (codes "salt") (source_salt_said fault.source.parameters)
    ∷ same (codes "role") (missing_role_said fault.why)
    ∷ same (codes "name") (Name fault.name)
    ∷ same (codes "rrset") (source_rrset_said fault.why)
    ∷ same (codes "record") (source_place_said fault.why)
    ∷ under (codes "holds") (codes "held") (held_said fault.why) ∷ [])

-- neither an answer nor a denial
abbrev pub missing_answer_row : MissingAnswer → SaidSentence
missing_answer_row missing = reason_sentence (reason (codes "answer-missing") 12) (
    plain (codes "name") (Name missing.name)
    ∷ plain (codes "type") (Number missing.rtype.0)
    ∷ same (codes "zone") (given_name missing.zone) ∷ [])

-- denials that prove nothing
abbrev pub denial_unproved_row : DenialUnproved → SaidSentence
denial_unproved_row denial = reason_sentence (reason (codes "denial-unproved") 12) (
    plain (codes "name") (Name denial.name)
    ∷ plain (codes "type") (Number denial.rtype.0)
    ∷ same (codes "zone") (Name denial.zone) ∷ [])

-- a DNSKEY RRset of which no trust anchor and no DS record fits a key
abbrev pub not_vouched_row : KeysNotVouched → SaidSentence
not_vouched_row keys = reason_sentence (reason (codes "not-vouched") 9) (
    plain (codes "zone") (Name keys.zone)
    ∷ same (codes "rrset") (Rrset keys.rrset) ∷ [])

-- a delegation that may be unsigned, of which nothing proves it
abbrev pub ds_unproved_row : DsUnproved → SaidSentence
ds_unproved_row cut = reason_sentence (reason (codes "ds-unproved") 12) (
    plain (codes "name") (Name cut.name)
    ∷ same (codes "zone") (Name cut.zone) ∷ [])

abbrev pub reason_row : Reason → SaidSentence
reason_row (why.Zone fault) = zone_fault_row fault
reason_row (why.Entry fault) = entry_fault_row fault
reason_row (why.NotSelfSigned key) = not_self_signed_row key
reason_row (why.Unsigned rrset) = unsigned_row rrset
reason_row (why.Signature fault) = signature_fault_row fault
reason_row (why.NoCloser closer) = closer_row closer
reason_row (why.Dname dname) = dname_row dname
reason_row (why.Nsec3 fault) = nsec3_row fault
reason_row (why.Source fault) = source_fault_row fault
reason_row (why.AnswerMissing missing) = missing_answer_row missing
reason_row (why.DenialUnproved denial) = denial_unproved_row denial
reason_row (why.NotVouched keys) = not_vouched_row keys
reason_row (why.DsUnproved cut) = ds_unproved_row cut

-- ---- all

abbrev pub sentence_of : Line → SaidSentence
sentence_of (line.Trusted keys) = trusted_row keys
sentence_of (line.Signed signed) = signed_row signed
sentence_of (line.Proof proof) = proof_row proof
sentence_of (line.Part part) = part_row part
sentence_of (line.Case cut) = case_row cut
sentence_of (line.Unusable ds) = unusable_row ds
sentence_of (line.Hope kind) = hope_row kind
sentence_of (line.Holds interval) = holds_row interval
sentence_of (line.Reason reason) = reason_row reason
sentence_of (line.Follows untrusted) = untrusted_row untrusted
sentence_of (line.Key key) = key_row key
sentence_of (line.Rrset place) = rrset_row place

-- a line, without its end
abbrev pub line_text : Line → List ℕ
line_text line = text_of_sentence (sentence_of line)

-- a line as an object of JSON
abbrev pub line_json : Line → List ℕ
line_json line = json_of_sentence (sentence_of line)

-- the numbers of RRsets that a line names, but for those of places
abbrev pub named_rrsets : Line → List ℕ
named_rrsets line = rrsets_of_sentence (sentence_of line)
