-- The text of `show`: the messages of a capture, with their questions and records.
use Rattle.std.specs.Prelude.{ℕ, suc, List, [], ◌∷◌, ◌++◌, codes, length}
use Rattle.std.specs.List.{flat_map}
use Rattle.std.specs.Fmt.{decimal}
use Rattle.std.specs.Int.{to_be_bytes, w16}
use Rattle.hex.specs.Hex.{encode_lower}
use Rattle.dnsv_names.specs.Name.{Labels}
use Rattle.dnsv_names.specs.Text.{text_of}
use Rattle.dnsv_message.specs.declared.record.Question.{Question}
use Rattle.dnsv_message.specs.declared.record.Record.{Record}
use Rattle.dnsv_message.specs.Message.{Contents, records_of}
use Rattle.dnsv_evidence_texts.specs.Hex.{hex_text}

-- the octets of a number of 16 bits, the high one first, in lower case hex
abbrev pub hex_of_16 : ℕ → List ℕ
hex_of_16 number = encode_lower (to_be_bytes w16 number)

-- the text of each of these, of which the first has the number
abbrev pub texts_from : {X : Type 0} → (ℕ → X → List ℕ) → ℕ → List X → List ℕ
texts_from text number [] = []
texts_from text number (x ∷ xs) = text number x ++ texts_from text (suc number) xs

-- a message's line: its number, its identifier and flags, and how many questions and records of each section
-- it has (RFC 1035 4.1.1)
abbrev pub message_line : ℕ → Contents → List ℕ
message_line number message =
    codes "message " ++ decimal number ++ codes " " ++ hex_of_16 message.id ++ codes " " ++ hex_of_16 message.flags
    ++ codes " " ++ decimal (length message.questions) ++ codes " " ++ decimal (length message.answer)
    ++ codes " " ++ decimal (length message.authority) ++ codes " " ++ decimal (length message.additional) ++ codes "\n"

-- what a question or a record is about: a name as it is spelled, a type and a class
abbrev pub about_text : Labels → ℕ → ℕ → List ℕ
about_text name rtype class = text_of name ++ codes " " ++ decimal rtype ++ codes " " ++ decimal class

-- a question's line (RFC 1035 4.1.2)
abbrev pub question_line : Question → List ℕ
question_line question = codes "question " ++ about_text question.name question.rtype.0 question.class.0 ++ codes "\n"

-- a record's line: its number, what it is about, its time to live, and its RDATA with the names in it written
-- out (RFC 1035 4.1.3)
abbrev pub record_line : ℕ → Record → List ℕ
record_line number resource =
    codes "record " ++ decimal number ++ codes " " ++ about_text resource.name resource.rtype.0 resource.class.0
    ++ codes " " ++ decimal resource.ttl.0 ++ codes " " ++ hex_text resource.rdata ++ codes "\n"

-- the lines of the message with the number; its records are numbered through its three sections
abbrev pub message_text : ℕ → Contents → List ℕ
message_text number message =
    message_line number message ++ flat_map question_line message.questions
    ++ texts_from record_line 1 (records_of message)
