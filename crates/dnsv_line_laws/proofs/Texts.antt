-- Lines that are the same have one text, and one object of JSON.
use Rattle.std.proofs.Common.{◌≡◌, ℕ, List, [], ◌∷◌, ◌++◌, Option, Some, None, codes, map, refl, sym, ap, ap₂, ◌∙◌}
use Rattle.std.specs.List.{flat_map}
use Rattle.dnsv_names.specs.Name.{Labels}
use Rattle.dnsv_names.proofs.LowerLemmas.{lower_twice}
use Rattle.dnsv_lines.specs.Json.{member, object, quoted}
use Rattle.dnsv_lines.specs.Rows.{line_json, line_text, sentence_of}
use Rattle.dnsv_lines.specs.Sentence.{Said, Name, Rrset, SaidField, SaidSentence, field_members, field_text, json_of_sentence, keyed_members, labelled_text, plain, text_of_sentence}
use Rattle.dnsv_lines.specs.declared.line.Line.{Line}
use Rattle.dnsv_lines.specs.declared.line.Line.TheVariants as line
use Rattle.dnsv_lines.specs.declared.line.denial.Part.{Part}
use Rattle.dnsv_lines.specs.declared.line.denial.Proof.{Proof}
use Rattle.dnsv_lines.specs.declared.line.denial.RecordPlace.{RecordPlace}
use Rattle.dnsv_lines.specs.declared.line.cut.Cut.{Cut}
use Rattle.dnsv_lines.specs.declared.line.fault.Reason.{Reason}
use Rattle.dnsv_lines.specs.declared.line.fault.Reason.TheVariants as why
use Rattle.dnsv_lines.specs.declared.line.fault.denial.MissingAnswer.{MissingAnswer}
use Rattle.dnsv_line_laws.specs.Lower.{SameLine, lower_line}
use Rattle.dnsv_line_laws.proofs.Reading.{lower_field, lower_said, lower_sentence}

-- ---- texts don't tell the case of letters

-- of a field
said_text : (label : Option (List ℕ)) (said : Said) → labelled_text label (lower_said said) ≡ labelled_text label said
said_text label (Name name) = rw (lower_twice name)
said_text label said = refl

-- of fields
fields_text : (fields : List SaidField) → flat_map field_text (map lower_field fields) ≡ flat_map field_text fields
fields_text [] = refl
fields_text (field ∷ fields) = ap₂ (λ t rest. t ++ rest) (said_text field.label field.said) (fields_text fields)

-- of a sentence
sentence_text : (s : SaidSentence) → text_of_sentence (lower_sentence s) ≡ text_of_sentence s
sentence_text s = ap (λ t. s.line ++ t) (fields_text (plain (codes "ede") s.error ∷ plain (codes "word") s.word ∷ s.fields))

-- in JSON of a field
said_json : (key : List ℕ) (said : Said) → keyed_members key (lower_said said) ≡ keyed_members key said
said_json key (Name name) = rw (lower_twice name)
said_json key said = refl

-- of fields
fields_json : (fields : List SaidField) → flat_map field_members (map lower_field fields) ≡ flat_map field_members fields
fields_json [] = refl
fields_json (field ∷ fields) = ap₂ (λ t rest. t ++ rest) (said_json field.key field.said) (fields_json fields)

-- of a sentence
sentence_json : (s : SaidSentence) → json_of_sentence (lower_sentence s) ≡ json_of_sentence s
sentence_json s =
    ap (λ members. object (member (codes "line") (quoted s.line) ∷ members))
    (fields_json (plain (codes "word") s.word ∷ plain (codes "ede") s.error ∷ s.fields))

-- ---- a line and the same in lower case say the same

-- what a line says in lower case is what the line in lower case says
abbrev IsLowered : Line → Type 0
IsLowered x = lower_sentence (sentence_of (lower_line x)) ≡ lower_sentence (sentence_of x)

-- of lines that may have another name
proof_lowered : (x : Proof) (given : Option Labels) → IsLowered (line.Proof (record x { encloser = given }))
proof_lowered x None = rw (lower_twice x.zone)
proof_lowered x (Some name) = rw (lower_twice x.zone, lower_twice name)

part_lowered : (x : Part) (given : Option RecordPlace) → IsLowered (line.Part (record x { by = given }))
part_lowered x None = rw (lower_twice x.name)
part_lowered x (Some place) = rw (lower_twice x.name, lower_twice place.owner)

case_lowered : (x : Cut) (given : Option Labels) → IsLowered (line.Case (record x { zone = given }))
case_lowered x None = rw (lower_twice x.name)
case_lowered x (Some name) = rw (lower_twice x.name, lower_twice name)

answer_lowered : (x : MissingAnswer) (given : Option Labels) → IsLowered (line.Reason (why.AnswerMissing (record x { zone = given })))
answer_lowered x None = rw (lower_twice x.name)
answer_lowered x (Some name) = rw (lower_twice x.name, lower_twice name)

-- of what fails
reason_lowered : (x : Reason) → IsLowered (line.Reason x)
reason_lowered (why.Zone x) = rw (lower_twice x.zone)
reason_lowered (why.Entry x) = rw (lower_twice x.entry.zone)
reason_lowered (why.NotSelfSigned x) = rw (lower_twice x.zone)
reason_lowered (why.Unsigned x) = rw (lower_twice x.owner)
reason_lowered (why.Signature x) = rw (lower_twice x.signature.owner, lower_twice x.signature.signer)
reason_lowered (why.NoCloser x) = rw (lower_twice x.signature.owner, lower_twice x.signature.signer, lower_twice x.name)
reason_lowered (why.Dname x) = rw (lower_twice x.name)
reason_lowered (why.Nsec3 x) = rw (lower_twice x.owner)
reason_lowered (why.Source x) = rw (lower_twice x.source.zone, lower_twice x.name)
reason_lowered (why.AnswerMissing x) = answer_lowered x x.zone
reason_lowered (why.DenialUnproved x) = rw (lower_twice x.name, lower_twice x.zone)
reason_lowered (why.NotVouched x) = rw (lower_twice x.zone)
reason_lowered (why.DsUnproved x) = rw (lower_twice x.name, lower_twice x.zone)

-- of each line
lowered : (x : Line) → IsLowered x
lowered (line.Trusted x) = rw (lower_twice x.zone)
lowered (line.Signed x) = rw (lower_twice x.owner, lower_twice x.zone)
lowered (line.Proof x) = proof_lowered x x.encloser
lowered (line.Part x) = part_lowered x x.by
lowered (line.Case x) = case_lowered x x.zone
lowered (line.Unusable x) = rw (lower_twice x.owner)
lowered (line.Reason x) = reason_lowered x
lowered (line.Follows x) = rw (lower_twice x.signature.owner, lower_twice x.signature.signer)
lowered (line.Key x) = rw (lower_twice x.zone)
lowered (line.Rrset x) = rw (lower_twice x.owner)
lowered x = refl

-- what is written of a line is what is written of it with names in lower case
lower_line_text : (x : Line) → line_text (lower_line x) ≡ line_text x
lower_line_text x = sym (sentence_text (sentence_of (lower_line x))) ∙ ap text_of_sentence (lowered x) ∙ sentence_text (sentence_of x)

lower_line_json : (x : Line) → line_json (lower_line x) ≡ line_json x
lower_line_json x = sym (sentence_json (sentence_of (lower_line x))) ∙ ap json_of_sentence (lowered x) ∙ sentence_json (sentence_of x)

-- lines that are the same have one text, and one object of JSON
pub text_of_same : (a b : Line) → SameLine a b → line_text a ≡ line_text b
text_of_same a b is = sym (lower_line_text a) ∙ ap line_text is ∙ lower_line_text b

pub json_of_same : (a b : Line) → SameLine a b → line_json a ≡ line_json b
json_of_same a b is = sym (lower_line_json a) ∙ ap line_json is ∙ lower_line_json b
