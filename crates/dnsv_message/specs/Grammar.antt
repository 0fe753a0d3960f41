-- The message grammar (RFC 1035 4.1): which message the octets are, and the first fault where they are none.
use Rattle.std.specs.Prelude.{◌≡◌, ◌⊎◌, ℕ, zero, suc, ◌+◌, ◌<◌, ◌≤◌, Bool, true, false, Option, Some, None, List, [], ◌∷◌, ◌++◌, length, take, drop, flat_map}
use Rattle.dnsv_names.specs.Name.{Labels, IsName, wire}
use Rattle.dnsv_names.specs.Octets.{AreOctets}
use Rattle.dnsv_message.specs.declared.errors.NameFault.{NameFault}
use Rattle.dnsv_message.specs.declared.errors.DecodeError.{DecodeError}
use Rattle.dnsv_message.specs.declared.errors.DecodeError.TheVariants.{Short, BadRdata, TrailingBytes}
use Rattle.dnsv_message.specs.declared.rdata.Layout.{Layout}
use Rattle.dnsv_message.specs.declared.record.Question.{Question}
use Rattle.dnsv_message.specs.declared.record.Record.{Record}
use Rattle.dnsv_message.specs.Errors.{decode_error_of}
use Rattle.dnsv_message.specs.Layout.{layout_of}
use Rattle.dnsv_message.specs.Message.{Contents}
use Rattle.dnsv_message.specs.NameAt.{NumberAt, PartAt, NameFrom, NameFaultFrom}

-- Things stand one after another from the place on, and end where the last of them does. `At place x end`
-- says that x stands at the place and ends before `end`.
abbrev pub InOrder : {X : Type 0} → (ℕ → X → ℕ → Type 0) → ℕ → List X → ℕ → Type 0
InOrder At place [] end = end ≡ place
InOrder At place (x ∷ xs) end = (next : ℕ) × At place x next × InOrder At next xs end

-- Of `count` things, numbered from `number` on, the first that doesn't stand at its place has this error.
abbrev pub FirstFault : {X E : Type 0} → (ℕ → X → ℕ → Type 0) → (ℕ → ℕ → E → Type 0) → ℕ → ℕ → ℕ → E → Type 0
FirstFault At Faulty zero number place error = ⊥
FirstFault {X} At Faulty (suc count) number place error =
    Faulty number place error
    ⊎ ((x : X) × (next : ℕ) × At place x next × FirstFault At Faulty count (suc number) next error)

-- a question: a name, a type and a class (RFC 1035 4.1.2)
pub record QuestionAt (octets : List ℕ) (place : ℕ) (question : Question) (end : ℕ) : Type 0 where
  pub after_name : ℕ
  pub name : NameFrom octets place question.name after_name
  pub rtype : NumberAt octets after_name 2 question.rtype.0
  pub class : NumberAt octets (after_name + 2) 2 question.class.0
  pub ends : end ≡ after_name + 4

-- the octets from a place on, this many of them
abbrev pub part_of : List ℕ → ℕ → ℕ → List ℕ
part_of octets place size = take size (drop place octets)

-- A name stands in an RDATA that ends at `limit`. Where it may be compressed, it or its first pointer ends
-- there at the latest, wherever that leads; where it may not, its wire form itself stands at the place.
abbrev pub RdataNameAt : List ℕ → ℕ → Bool → ℕ → Labels → ℕ → Type 0
RdataNameAt octets limit true place name end = NameFrom octets place name end × (end ≤ limit)
RdataNameAt octets limit false place name end =
    IsName name × PartAt octets place (wire name) × (end ≡ place + length (wire name)) × (end ≤ limit)

-- this many octets are what stands behind the names
abbrev pub IsTail : Option ℕ → ℕ → Type 0
IsTail (Some tail) size = size ≡ tail
IsTail None size = Unit {0}

-- The RDATA that takes the `size` octets from `start` on is laid out so, and is these octets with its names
-- written out.
pub record RdataAt (octets : List ℕ) (layout : Layout) (start size : ℕ) (rdata : List ℕ) : Type 0 where
  pub names : List Labels
  pub after_names : ℕ
  pub rest : ℕ
  pub counted : length names ≡ layout.names
  pub named : InOrder (RdataNameAt octets (start + size) layout.pointers) (start + layout.head) names after_names
  pub filled : after_names + rest ≡ start + size
  pub ends : IsTail layout.tail rest
  pub written : rdata ≡ part_of octets start layout.head ++ flat_map wire names ++ part_of octets after_names rest

-- the parts of a record before its RDATA, which begins at `start` and has `size` octets (RFC 1035 4.1.3)
pub record RecordHeadAt (octets : List ℕ) (place : ℕ) (name : Labels) (rtype class ttl start size : ℕ) : Type 0 where
  pub after_name : ℕ
  pub named : NameFrom octets place name after_name
  pub typed : NumberAt octets after_name 2 rtype
  pub classed : NumberAt octets (after_name + 2) 2 class
  pub timed : NumberAt octets (after_name + 4) 4 ttl
  pub sized : NumberAt octets (after_name + 8) 2 size
  pub starts : start ≡ after_name + 10

-- a record, whose RDATA is all there and laid out as its type asks
pub record RecordAt (octets : List ℕ) (place : ℕ) (resource : Record) (end : ℕ) : Type 0 where
  pub start : ℕ
  pub size : ℕ
  pub head : RecordHeadAt octets place resource.name resource.rtype.0 resource.class.0 resource.ttl.0 start size
  pub whole : start + size ≤ length octets
  pub rdata : RdataAt octets (layout_of resource.rtype.0 resource.class.0) start size resource.rdata
  pub ends : end ≡ start + size

-- the header's numbers: identifier, flags, and how many questions and records of each section there are
-- (RFC 1035 4.1.1)
pub record HeaderOf (octets : List ℕ) (id flags questions answer authority additional : ℕ) : Type 0 where
  pub identifier : NumberAt octets 0 2 id
  pub flag_bits : NumberAt octets 2 2 flags
  pub question_count : NumberAt octets 4 2 questions
  pub answer_count : NumberAt octets 6 2 answer
  pub authority_count : NumberAt octets 8 2 authority
  pub additional_count : NumberAt octets 10 2 additional

-- The octets are the message: its header, and as many questions and records as the header says, one after
-- another, with nothing left over.
pub record MessageOf (octets : List ℕ) (message : Contents) : Type 0 where
  pub header : HeaderOf octets message.id message.flags (length message.questions)
      (length message.answer) (length message.authority) (length message.additional)
  pub after_questions : ℕ
  pub after_answer : ℕ
  pub after_authority : ℕ
  pub questions : InOrder (QuestionAt octets) 12 message.questions after_questions
  pub answer : InOrder (RecordAt octets) after_questions message.answer after_answer
  pub authority : InOrder (RecordAt octets) after_answer message.authority after_authority
  pub additional : InOrder (RecordAt octets) after_authority message.additional (length octets)

-- some octets are the message
abbrev pub IsMessage : Contents → Type 0
IsMessage message = (octets : List ℕ) × AreOctets octets × MessageOf octets message

-- a name has a fault, or octets are missing behind it
abbrev pub CutShort : List ℕ → ℕ → ℕ → DecodeError → Type 0
CutShort octets place more error =
    ((fault : NameFault) × NameFaultFrom octets place fault × (error ≡ decode_error_of fault))
    ⊎ ((name : Labels) × (after_name : ℕ) × NameFrom octets place name after_name
    × (length octets < after_name + more) × (error ≡ Short))

-- no question stands at the place
abbrev pub QuestionFaultAt : List ℕ → ℕ → ℕ → DecodeError → Type 0
QuestionFaultAt octets number place error = CutShort octets place 4 error

-- an RDATA's end is missing, or the RDATA isn't laid out as its type asks
abbrev pub RdataFaultAt : List ℕ → ℕ → ℕ → ℕ → ℕ → ℕ → DecodeError → Type 0
RdataFaultAt octets number rtype class start size error =
    ((length octets < start + size) × (error ≡ Short))
    ⊎ ((start + size ≤ length octets) × ((rdata : List ℕ) → RdataAt octets (layout_of rtype class) start size rdata → ⊥)
    × (error ≡ BadRdata number))

-- the head of a record stands at the place, and its RDATA has the fault
pub record FaultBehindHead (octets : List ℕ) (number place : ℕ) (error : DecodeError) : Type 0 where
  pub name : Labels
  pub rtype : ℕ
  pub class : ℕ
  pub ttl : ℕ
  pub start : ℕ
  pub size : ℕ
  pub head : RecordHeadAt octets place name rtype class ttl start size
  pub fault : RdataFaultAt octets number rtype class start size error

-- no record stands at the place: its head is cut short, or its RDATA has a fault
abbrev pub RecordFaultAt : List ℕ → ℕ → ℕ → DecodeError → Type 0
RecordFaultAt octets number place error = CutShort octets place 10 error ⊎ FaultBehindHead octets number place error

-- so many records stand from the place on, and octets are left over behind them
pub record LeavesOctets (octets : List ℕ) (count place : ℕ) (error : DecodeError) : Type 0 where
  pub records : List Record
  pub end : ℕ
  pub stand : InOrder (RecordAt octets) place records end
  pub all : length records ≡ count
  pub more : end < length octets
  pub is : error ≡ TrailingBytes

-- the fault of so many records that should fill the octets from the place on, numbered through the three sections
abbrev pub RecordsFault : List ℕ → ℕ → ℕ → DecodeError → Type 0
RecordsFault octets count place error =
    FirstFault (RecordAt octets) (RecordFaultAt octets) count 1 place error ⊎ LeavesOctets octets count place error

-- all questions stand, and the records behind them have the fault
pub record FaultBehindQuestions (octets : List ℕ) (question_count record_count : ℕ) (error : DecodeError) : Type 0 where
  pub questions : List Question
  pub end : ℕ
  pub stand : InOrder (QuestionAt octets) 12 questions end
  pub all : length questions ≡ question_count
  pub fault : RecordsFault octets record_count end error

-- the fault of the questions and records behind a header, of which there are so many
abbrev pub BodyFault : List ℕ → ℕ → ℕ → DecodeError → Type 0
BodyFault octets question_count record_count error =
    FirstFault (QuestionAt octets) (QuestionFaultAt octets) question_count 1 12 error
    ⊎ FaultBehindQuestions octets question_count record_count error

-- the header is there, and what it counts has the fault
pub record FaultBehindHeader (octets : List ℕ) (error : DecodeError) : Type 0 where
  pub id : ℕ
  pub flags : ℕ
  pub question_count : ℕ
  pub answer_count : ℕ
  pub authority_count : ℕ
  pub additional_count : ℕ
  pub header : HeaderOf octets id flags question_count answer_count authority_count additional_count
  pub fault : BodyFault octets question_count (answer_count + authority_count + additional_count) error

-- the fault of octets that are no message: that of the first field, from left to right, that can't be read
abbrev pub FaultOf : List ℕ → DecodeError → Type 0
FaultOf octets error = ((length octets < 12) × (error ≡ Short)) ⊎ FaultBehindHeader octets error
