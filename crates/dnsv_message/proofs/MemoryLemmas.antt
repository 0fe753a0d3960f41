-- Want of memory is no fault of octets.
use Rattle.std.proofs.Common.{◌≡◌, ◌+◌, ℕ, zero, suc, List, inl, inr}
use Rattle.dnsv_message.specs.declared.errors.DecodeError.{DecodeError}
use Rattle.dnsv_message.specs.declared.errors.DecodeError.TheVariants as decode
use Rattle.dnsv_message.specs.declared.errors.NameFault.{NameFault}
use Rattle.dnsv_message.specs.declared.errors.NameFault.TheVariants as name
use Rattle.dnsv_message.specs.Errors.{decode_error_of}
use Rattle.dnsv_message.specs.Grammar.{FaultOf, FirstFault, CutShort, RecordFaultAt, RdataFaultAt}
use Rattle.dnsv_message.specs.Grammar.{BodyFault, QuestionAt, QuestionFaultAt, RecordAt, RecordsFault}

not_short : decode.OutOfMemory ≡ decode.Short → ⊥
not_short is = cc

not_bad_rdata : (number : ℕ) → decode.OutOfMemory ≡ decode.BadRdata number → ⊥
not_bad_rdata number is = cc

not_trailing : decode.OutOfMemory ≡ decode.TrailingBytes → ⊥
not_trailing is = cc

not_a_name's : (fault : NameFault) → decode.OutOfMemory ≡ decode_error_of fault → ⊥
not_a_name's name.Short is = cc
not_a_name's fault is = cc

not_cut : (octets : List ℕ) (place more : ℕ) → CutShort octets place more decode.OutOfMemory → ⊥
not_cut octets place more (inl name) = not_a_name's name.0 name.2
not_cut octets place more (inr behind) = not_short behind.4

not_rdata : (octets : List ℕ) (number rtype class start size : ℕ) → RdataFaultAt octets number rtype class start size decode.OutOfMemory → ⊥
not_rdata octets number rtype class start size (inl short) = not_short short.1
not_rdata octets number rtype class start size (inr bad) = not_bad_rdata number bad.2

not_a_record's : (octets : List ℕ) (number place : ℕ) → RecordFaultAt octets number place decode.OutOfMemory → ⊥
not_a_record's octets number place (inl cut) = not_cut octets place 10 cut
not_a_record's octets number place (inr behind) = not_rdata octets number behind.rtype behind.class behind.start behind.size behind.fault

not_first : {X : Type 0} (At : ℕ → X → ℕ → Type 0) (Faulty : ℕ → ℕ → DecodeError → Type 0)
    → ((number place : ℕ) → Faulty number place decode.OutOfMemory → ⊥)
    → (count number place : ℕ) → FirstFault At Faulty count number place decode.OutOfMemory → ⊥
not_first At Faulty never zero number place fault = fault
not_first At Faulty never (suc count) number place (inl here) = never number place here
not_first At Faulty never (suc count) number place (inr later) = not_first At Faulty never count (suc number) later.1 later.3

not_the_records' : (octets : List ℕ) (count place : ℕ) → RecordsFault octets count place decode.OutOfMemory → ⊥
not_the_records' octets count place (inl first) =
    not_first (RecordAt octets) (RecordFaultAt octets) (not_a_record's octets) count 1 place first
not_the_records' octets count place (inr left) = not_trailing left.is

not_the_body's : (octets : List ℕ) (questions records : ℕ) → BodyFault octets questions records decode.OutOfMemory → ⊥
not_the_body's octets questions records (inl first) =
    not_first (QuestionAt octets) (QuestionFaultAt octets) (λ number place. not_cut octets place 4) questions 1 12 first
not_the_body's octets questions records (inr behind) = not_the_records' octets records behind.end behind.fault

pub not_memory : (octets : List ℕ) → FaultOf octets decode.OutOfMemory → ⊥
not_memory octets (inl short) = not_short short.1
not_memory octets (inr behind) =
    not_the_body's octets behind.question_count (behind.answer_count + behind.authority_count + behind.additional_count) behind.fault
