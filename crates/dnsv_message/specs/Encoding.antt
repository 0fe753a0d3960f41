-- The octets of a message (RFC 1035 4.1) in which no name is compressed.
use Rattle.std.specs.Prelude.{ℕ, false, List, ◌++◌, length, flat_map}
use Rattle.std.specs.Int.{w16, w32, to_be_bytes}
use Rattle.dnsv_names.specs.Name.{wire}
use Rattle.dnsv_message.specs.declared.rdata.Layout.{Layout}
use Rattle.dnsv_message.specs.declared.record.Question.{Question}
use Rattle.dnsv_message.specs.declared.record.Record.{Record}
use Rattle.dnsv_message.specs.Layout.{layout_of}
use Rattle.dnsv_message.specs.Message.{Contents, records_of}
use Rattle.dnsv_message.specs.NameAt.{PartAt}
use Rattle.dnsv_message.specs.Grammar.{InOrder, QuestionAt, RdataAt, RecordAt, MessageOf}

-- a question: its name, type and class (RFC 1035 4.1.2)
abbrev pub question_octets : Question → List ℕ
question_octets question = wire question.name ++ to_be_bytes w16 question.rtype.0 ++ to_be_bytes w16 question.class.0

-- a record: its name, type, class and TTL, and its RDATA behind the length of that (RFC 1035 4.1.3)
abbrev pub record_octets : Record → List ℕ
record_octets resource =
    wire resource.name ++ to_be_bytes w16 resource.rtype.0 ++ to_be_bytes w16 resource.class.0
    ++ to_be_bytes w32 resource.ttl.0
    ++ to_be_bytes w16 (length resource.rdata) ++ resource.rdata

-- the header: identifier, flags, and how many questions and records of each section there are (RFC 1035 4.1.1)
abbrev pub header_octets : Contents → List ℕ
header_octets message =
    to_be_bytes w16 message.id ++ to_be_bytes w16 message.flags ++ to_be_bytes w16 (length message.questions)
    ++ to_be_bytes w16 (length message.answer) ++ to_be_bytes w16 (length message.authority)
    ++ to_be_bytes w16 (length message.additional)

-- a message: its header, its questions, and the records of its three sections
abbrev pub message_octets : Contents → List ℕ
message_octets message =
    header_octets message ++ flat_map question_octets message.questions ++ flat_map record_octets (records_of message)

-- a layout of which no name is compressed
abbrev pub plain_layout : Layout → Layout
plain_layout layout = record { head = layout.head; names = layout.names; pointers = false; tail = layout.tail }

-- a question whose name has no pointer
abbrev pub PlainQuestionAt : List ℕ → ℕ → Question → ℕ → Type 0
PlainQuestionAt octets place question end =
    QuestionAt octets place question end × PartAt octets place (wire question.name)

-- a record no name of which has a pointer, within its RDATA neither
pub record PlainRecordAt (octets : List ℕ) (place : ℕ) (resource : Record) (end : ℕ) : Type 0 where
  pub stands : RecordAt octets place resource end
  pub name : PartAt octets place (wire resource.name)
  pub rdata : RdataAt octets (plain_layout (layout_of resource.rtype.0 resource.class.0))
      stands.start stands.size resource.rdata

-- the octets are the message, and no name in them has a pointer
pub record PlainMessageOf (octets : List ℕ) (message : Contents) : Type 0 where
  pub whole : MessageOf octets message
  pub after_questions : ℕ
  pub questions : InOrder (PlainQuestionAt octets) 12 message.questions after_questions
  pub records : InOrder (PlainRecordAt octets) after_questions (records_of message) (length octets)
