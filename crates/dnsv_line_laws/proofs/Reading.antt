-- A line is read back from its sentence.
use Rattle.std.proofs.Common.{ℕ, ◌==◌, ◌+◌, ◌||◌, ◌&&◌, Bool, false, cond, List, [], ◌∷◌, Option, Some, None, codes, get_or, map}
use Rattle.dnsv_names.specs.Name.{Labels, lower_case}
use Rattle.dnsv_message.specs.declared.record.Section.{Section}
use Rattle.dnsv_message.specs.declared.record.Section.TheVariants as section
use Rattle.dnsv_canonical.specs.declared.number.RecordNumber.{RecordNumber}
use Rattle.dnsv_records.specs.declared.nsec3.Nsec3Parameters.{Nsec3Parameters}
use Rattle.dnsv_records.specs.declared.number.DigestType.{DigestType}
use Rattle.dnsv_lines.specs.Sentence.{Said, Name, Number, Rrset, Word, Salt, Nothing, SaidField, SaidSentence}
use Rattle.dnsv_lines.specs.declared.line.Kind.{Kind}
use Rattle.dnsv_lines.specs.declared.line.Kind.TheVariants as kind
use Rattle.dnsv_lines.specs.declared.line.Line.{Line}
use Rattle.dnsv_lines.specs.declared.line.Line.TheVariants as line
use Rattle.dnsv_lines.specs.declared.line.cut.InsecureCase.{InsecureCase}
use Rattle.dnsv_lines.specs.declared.line.cut.InsecureCase.TheVariants as case
use Rattle.dnsv_lines.specs.declared.line.cut.WhyUnusable.{WhyUnusable}
use Rattle.dnsv_lines.specs.declared.line.cut.WhyUnusable.TheVariants as unusable
use Rattle.dnsv_lines.specs.declared.line.denial.Chain.{Chain}
use Rattle.dnsv_lines.specs.declared.line.denial.Chain.TheVariants as chain
use Rattle.dnsv_lines.specs.declared.line.denial.Form.{Form}
use Rattle.dnsv_lines.specs.declared.line.denial.Form.TheVariants as form
use Rattle.dnsv_lines.specs.declared.line.denial.RecordPlace.{RecordPlace}
use Rattle.dnsv_lines.specs.declared.line.denial.Relation.{Relation}
use Rattle.dnsv_lines.specs.declared.line.denial.Relation.TheVariants as relation
use Rattle.dnsv_lines.specs.declared.line.denial.Role.{Role}
use Rattle.dnsv_lines.specs.declared.line.denial.Role.TheVariants as role
use Rattle.dnsv_lines.specs.declared.line.derivation.KeyName.{KeyName}
use Rattle.dnsv_lines.specs.declared.line.derivation.Voucher.{Voucher}
use Rattle.dnsv_lines.specs.declared.line.derivation.Voucher.TheVariants as voucher
use Rattle.dnsv_lines.specs.declared.line.fault.Reason.{Reason}
use Rattle.dnsv_lines.specs.declared.line.fault.Reason.TheVariants as why
use Rattle.dnsv_lines.specs.declared.line.fault.denial.WhyNsec3.{WhyNsec3}
use Rattle.dnsv_lines.specs.declared.line.fault.denial.WhyNsec3.TheVariants as nsec3
use Rattle.dnsv_lines.specs.declared.line.fault.denial.WhySource.{WhySource}
use Rattle.dnsv_lines.specs.declared.line.fault.denial.WhySource.TheVariants as source
use Rattle.dnsv_lines.specs.declared.line.fault.signature.ShownSignature.{ShownSignature}
use Rattle.dnsv_lines.specs.declared.line.fault.signature.SignatureTimes.{SignatureTimes}
use Rattle.dnsv_lines.specs.declared.line.fault.signature.WhySignature.{WhySignature}
use Rattle.dnsv_lines.specs.declared.line.fault.signature.WhySignature.TheVariants as signature
use Rattle.dnsv_lines.specs.declared.line.fault.zone.EntryNumber.{EntryNumber}
use Rattle.dnsv_lines.specs.declared.line.fault.zone.EntryNumber.TheVariants as number
use Rattle.dnsv_lines.specs.declared.line.fault.zone.WhyEntry.{WhyEntry}
use Rattle.dnsv_lines.specs.declared.line.fault.zone.WhyEntry.TheVariants as entry
use Rattle.dnsv_lines.specs.declared.line.fault.zone.WhyZone.{WhyZone}
use Rattle.dnsv_lines.specs.declared.line.fault.zone.WhyZone.TheVariants as zone
use Rattle.dnsv_line_laws.proofs.parts.Marks.{same}

-- ---- a sentence with its names in lower case

abbrev pub lower_said : Said → Said
lower_said (Name name) = Name (lower_case name)
lower_said (Number number) = Number number
lower_said (Rrset number) = Rrset number
lower_said (Word word) = Word word
lower_said (Salt salt) = Salt salt
lower_said Nothing = Nothing

abbrev pub lower_field : SaidField → SaidField
lower_field field = record { label = field.label; key = field.key; said = lower_said field.said }

abbrev pub lower_sentence : SaidSentence → SaidSentence
lower_sentence s = record { line = s.line; word = lower_said s.word; error = lower_said s.error; fields = map lower_field s.fields }

-- ---- what a field says

-- what the field at this place says
abbrev pub at : List SaidField → ℕ → Said
at fields i = get_or (map (λ field. field.said) fields) i Nothing

-- a name or a number, where there is one
abbrev pub name_if : Said → Option Labels
name_if (Name name) = Some name
name_if _ = None

abbrev pub number_if : Said → Option ℕ
number_if (Number number) = Some number
number_if (Rrset number) = Some number
number_if _ = None

-- a name, a number, a word or a salt, by a default where there is none
abbrev pub name_in : Said → Labels
name_in (Name name) = name
name_in _ = []

abbrev pub number_in : Said → ℕ
number_in (Number number) = number
number_in (Rrset number) = number
number_in _ = 0

abbrev pub word_in : Said → List ℕ
word_in (Word word) = word
word_in _ = []

abbrev pub salt_in : Said → List ℕ
salt_in (Salt salt) = salt
salt_in _ = []

-- ---- words

abbrev pub kind_in : List ℕ → Kind
kind_in word =
    cond (same word (codes "SecureAnswer")) kind.SecureAnswer (
    cond (same word (codes "SecureAlias")) kind.SecureAlias (
    cond (same word (codes "SecureNoName")) kind.SecureNoName (
    cond (same word (codes "SecureNoData")) kind.SecureNoData (
    kind.Insecure))))

abbrev pub form_in : List ℕ → Form
form_in word =
    cond (same word (codes "no-name")) form.NoName (
    cond (same word (codes "no-data-1")) form.NoData1 (
    cond (same word (codes "no-data-2")) form.NoData2 (
    cond (same word (codes "no-data-3")) form.NoData3 (
    cond (same word (codes "no-data-4")) form.NoData4 (
    cond (same word (codes "no-closer")) form.NoCloser (
    form.OptOut))))))

abbrev pub chain_in : List ℕ → Chain
chain_in word =
    cond (same word (codes "nsec")) chain.Nsec (
    chain.Nsec3)

abbrev pub role_in : List ℕ → Role
role_in word =
    cond (same word (codes "closest-encloser")) role.ClosestEncloser (
    cond (same word (codes "next-closer")) role.NextCloser (
    cond (same word (codes "wildcard")) role.Wildcard (
    cond (same word (codes "name")) role.Name (
    role.Cut))))

abbrev pub relation_in : List ℕ → Relation
relation_in word =
    cond (same word (codes "matched")) relation.Matched (
    cond (same word (codes "exists")) relation.Exists (
    cond (same word (codes "covered")) relation.Covered (
    cond (same word (codes "non-terminal")) relation.NonTerminal (
    cond (same word (codes "opt-out")) relation.OptOut (
    relation.Apex)))))

abbrev pub unusable_in : List ℕ → WhyUnusable
unusable_in word =
    cond (same word (codes "algorithm")) unusable.Algorithm (
    cond (same word (codes "digest-type")) unusable.DigestType (
    unusable.DigestIgnored))

abbrev pub zone_in : List ℕ → WhyZone
zone_in word =
    cond (same word (codes "no-anchor")) zone.NoAnchor (
    cond (same word (codes "dnskey-missing")) zone.DnskeyMissing (
    zone.DsMissing))

abbrev pub entry_in : List ℕ → WhyEntry
entry_in word =
    cond (same word (codes "algorithm")) entry.Algorithm (
    cond (same word (codes "digest-type")) entry.DigestType (
    cond (same word (codes "digest-ignored")) entry.DigestIgnored (
    cond (same word (codes "key-missing")) entry.KeyMissing (
    cond (same word (codes "key-algorithm")) entry.KeyAlgorithm (
    entry.DigestDiffers)))))

abbrev pub signature_in : List ℕ → SignatureTimes → WhySignature
signature_in word times =
    cond (same word (codes "labels")) signature.Labels (
    cond (same word (codes "signer")) signature.Signer (
    cond (same word (codes "expanded")) signature.Expanded (
    cond (same word (codes "algorithm")) signature.Algorithm (
    cond (same word (codes "not-yet")) (signature.NotYet times) (
    cond (same word (codes "expired")) (signature.Expired times) (
    cond (same word (codes "key-missing")) signature.KeyMissing (
    cond (same word (codes "not-zone-key")) signature.NotZoneKey (
    cond (same word (codes "bad")) signature.Bad (
    cond (same word (codes "unanswered")) signature.Unanswered (
    signature.KeyUntrusted))))))))))

abbrev pub source_in : List ℕ → RecordNumber → ℕ → Role → WhySource
source_in word number held role =
    cond (same word (codes "delegation")) (source.Delegation number) (
    cond (same word (codes "type-held")) (source.TypeHeld number (record { 0 = held })) (
    cond (same word (codes "match-missing")) source.MatchMissing (
    cond (same word (codes "encloser-missing")) source.EncloserMissing (
    source.CoverMissing role))))

abbrev pub nsec3_in : List ℕ → ℕ → WhyNsec3
nsec3_in word count = cond (same word (codes "nsec3-iterations")) (nsec3.Iterations (record { 0 = count })) nsec3.Unusable

abbrev pub case_in : ℕ → InsecureCase
case_in number =
    cond (number == 1) case.UnsignedDelegation (cond (number == 2) case.UnusableDs (cond (number == 3) case.OptOut case.OptOutWildcard))

abbrev pub section_in : ℕ → Section
section_in number = cond (number == 1) section.Answer (cond (number == 2) section.Authority section.Additional)

-- ---- parts of several fields

-- a key by its tag and its algorithm, and a record by its RRset and its place
abbrev pub key_at : List SaidField → ℕ → KeyName
key_at fields i = record { tag = record { 0 = number_in (at fields i) }; algorithm = record { 0 = number_in (at fields (i + 1)) } }

abbrev pub record_at : List SaidField → ℕ → RecordNumber
record_at fields i = record { rrset = number_in (at fields i); place = number_in (at fields (i + 1)) }

-- what a line may have or not
abbrev pub digest_if : Option ℕ → Option DigestType
digest_if None = None
digest_if (Some digest) = Some (record { 0 = digest })

abbrev pub record_if : Option ℕ → ℕ → Option RecordNumber
record_if None place = None
record_if (Some rrset) place = Some (record { rrset = rrset; place = place })

abbrev pub place_if : Option Labels → ℕ → RecordNumber → Option RecordPlace
place_if None rtype number = None
place_if (Some owner) rtype number = Some (record { owner = owner; rtype = record { 0 = rtype }; number = number })

-- what matches a key, and the entry that matches none
abbrev pub voucher_in : Option ℕ → RecordNumber → Option ℕ → Voucher
voucher_in (Some anchor) ds None = voucher.KeyAnchor anchor
voucher_in (Some anchor) ds (Some digest) = voucher.DsAnchor anchor (record { 0 = digest })
voucher_in None ds (Some digest) = voucher.Ds ds (record { 0 = digest })
voucher_in None ds None = voucher.Ds ds (record { 0 = 0 })

abbrev pub entry_number_in : Option ℕ → RecordNumber → EntryNumber
entry_number_in (Some anchor) ds = number.Anchor anchor
entry_number_in None ds = number.Ds ds

abbrev pub parameters_if : Option ℕ → List ℕ → Option Nsec3Parameters
parameters_if None salt = None
parameters_if (Some count) salt = Some (record { iterations = record { 0 = count }; salt = salt })

-- a signature with the key that it names
abbrev pub shown_in : List SaidField → ShownSignature
shown_in fields = record {
  owner = name_in (at fields 0);
  rtype = record { 0 = number_in (at fields 1) };
  number = record { rrset = number_in (at fields 2); signature = number_in (at fields 3) };
  key = key_at fields 4;
  signer = name_in (at fields 6);
}

-- ---- reasons

-- the word is one of these
abbrev pub one_of : List ℕ → List (List ℕ) → Bool
one_of word [] = false
one_of word (other ∷ others) = same word other || one_of word others

-- the key of the first field
abbrev pub first_key : List SaidField → List ℕ
first_key [] = []
first_key (field ∷ fields) = field.key

-- by the word of what fails
abbrev pub read_reason : List ℕ → List SaidField → Reason
read_reason word fields =
    cond (one_of word (codes "no-anchor" ∷ codes "dnskey-missing" ∷ codes "ds-missing" ∷ []))
    (why.Zone (record { why = zone_in word; zone = name_in (at fields 0) })) (
    cond (one_of word (codes "algorithm" ∷ codes "digest-type" ∷ codes "digest-ignored" ∷ codes "key-missing" ∷ codes "key-algorithm" ∷ codes "digest-differs" ∷ [])
    && same (first_key fields) (codes "zone"))
    (why.Entry (record {
      why = entry_in word;
      entry = record {
        zone = name_in (at fields 0);
        number = entry_number_in (number_if (at fields 1)) (record_at fields 2);
        key = key_at fields 4;
        digest_type = digest_if (number_if (at fields 6));
      };
    })) (
    cond (same word (codes "not-self-signed")) (why.NotSelfSigned (record { zone = name_in (at fields 0); rrset = number_in (at fields 1); key = key_at fields 2 })) (
    cond (same word (codes "unsigned"))
    (why.Unsigned (record { owner = name_in (at fields 0); rtype = record { 0 = number_in (at fields 1) }; rrset = number_in (at fields 2) })) (
    cond (same word (codes "no-closer")) (why.NoCloser (record { signature = shown_in fields; name = name_in (at fields 7) })) (
    cond (same word (codes "dname")) (why.Dname (record { name = name_in (at fields 0); rrset = number_in (at fields 1); place = number_if (at fields 2) })) (
    cond (one_of word (codes "nsec3-iterations" ∷ codes "nsec3-unusable" ∷ []))
    (why.Nsec3 (record { why = nsec3_in word (number_in (at fields 4)); owner = name_in (at fields 0); number = record_at fields 2 })) (
    cond (one_of word (codes "delegation" ∷ codes "type-held" ∷ codes "match-missing" ∷ codes "encloser-missing" ∷ codes "cover-missing" ∷ []))
    (why.Source (record {
      why = source_in word (record_at fields 6) (number_in (at fields 8)) (role_in (word_in (at fields 4)));
      source = record { zone = name_in (at fields 1); parameters = parameters_if (number_if (at fields 2)) (salt_in (at fields 3)) };
      name = name_in (at fields 5);
    })) (
    cond (same word (codes "answer-missing"))
    (why.AnswerMissing (record { name = name_in (at fields 0); rtype = record { 0 = number_in (at fields 1) }; zone = name_if (at fields 2) })) (
    cond (same word (codes "denial-unproved"))
    (why.DenialUnproved (record { name = name_in (at fields 0); rtype = record { 0 = number_in (at fields 1) }; zone = name_in (at fields 2) })) (
    cond (same word (codes "not-vouched")) (why.NotVouched (record { zone = name_in (at fields 0); rrset = number_in (at fields 1) })) (
    cond (same word (codes "ds-unproved")) (why.DsUnproved (record { name = name_in (at fields 0); zone = name_in (at fields 1) }))
    (why.Signature (record {
      why = signature_in word (record {
        inception = record { 0 = number_in (at fields 7) };
        expiration = record { 0 = number_in (at fields 8) };
        by = number_in (at fields 9);
      });
      signature = shown_in fields;
    })))))))))))))

-- ---- lines

-- by the first word
abbrev pub read_fields : List ℕ → List ℕ → List SaidField → Line
read_fields first word fields =
    cond (same first (codes "trusted")) (line.Trusted (record {
      zone = name_in (at fields 0);
      signature = record { rrset = number_in (at fields 1); signature = number_in (at fields 2) };
      key = key_at fields 3;
      voucher = voucher_in (number_if (at fields 5)) (record_at fields 6) (number_if (at fields 8));
      todo = record { 0 = number_if (at fields 9) };
    })) (
    cond (same first (codes "signed")) (line.Signed (record {
      owner = name_in (at fields 0);
      rtype = record { 0 = number_in (at fields 1) };
      signature = record { rrset = number_in (at fields 2); signature = number_in (at fields 3) };
      key = key_at fields 4;
      zone = name_in (at fields 6);
      keys = number_in (at fields 7);
      todo = record { 0 = number_if (at fields 8) };
    })) (
    cond (same first (codes "proof")) (line.Proof (record {
      form = form_in (word_in (at fields 0));
      chain = chain_in (word_in (at fields 1));
      zone = name_in (at fields 2);
      encloser = name_if (at fields 3);
    })) (
    cond (same first (codes "part")) (line.Part (record {
      role = role_in (word_in (at fields 0));
      relation = relation_in (word_in (at fields 1));
      name = name_in (at fields 2);
      by = place_if (name_if (at fields 3)) (number_in (at fields 4)) (record_at fields 5);
    })) (
    cond (same first (codes "case"))
    (line.Case (record { case = case_in (number_in (at fields 0)); name = name_in (at fields 1); zone = name_if (at fields 2) })) (
    cond (same first (codes "unusable")) (line.Unusable (record {
      why = unusable_in (word_in (at fields 0));
      owner = name_in (at fields 1);
      number = record_at fields 2;
      key = key_at fields 4;
      digest_type = record { 0 = number_in (at fields 6) };
    })) (
    cond (same first (codes "hope")) (line.Hope (kind_in (word_in (at fields 0)))) (
    cond (same first (codes "holds")) (line.Holds (record { from = number_in (at fields 0); to = number_in (at fields 1) })) (
    cond (same first (codes "follows")) (line.Follows (record { signature = shown_in fields })) (
    cond (same first (codes "key")) (line.Key (record {
      zone = name_in (at fields 0);
      number = record_at fields 1;
      key = key_at fields 3;
      flags = record { 0 = number_in (at fields 5) };
      signature = number_if (at fields 6);
      anchor = number_if (at fields 7);
      ds = record_if (number_if (at fields 8)) (number_in (at fields 9));
    })) (
    cond (same first (codes "rrset")) (line.Rrset (record {
      rrset = number_in (at fields 0);
      message = number_in (at fields 1);
      section = section_in (number_in (at fields 2));
      owner = name_in (at fields 3);
      rtype = record { 0 = number_in (at fields 4) };
    }))
    (line.Reason (read_reason word fields))))))))))))

-- the line of a sentence
abbrev pub read : SaidSentence → Line
read s = read_fields s.line (word_in s.word) s.fields
