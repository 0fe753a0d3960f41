-- The fault of octets that are no message, from the fault of one of its sections.
use Rattle.std.proofs.Common.{◌≡◌, ℕ, ◌+◌, ◌<◌, ◌≤◌, List, ◌++◌, length, refl, subst, inl, inr, arith, add_assoc, length-append}
use Rattle.dnsv_names.specs.Octets.{number_at}
use Rattle.dnsv_message.specs.declared.errors.DecodeError.{DecodeError}
use Rattle.dnsv_message.specs.declared.errors.DecodeError.TheVariants.{TrailingBytes}
use Rattle.dnsv_message.specs.declared.record.Question.{Question}
use Rattle.dnsv_message.specs.declared.record.Record.{Record}
use Rattle.dnsv_message.specs.NameAt.{NumberAt}
use Rattle.dnsv_message.specs.Grammar.{HeaderOf, QuestionAt, RecordAt, RecordFaultAt, InOrder, FirstFault, RecordsFault, FaultOf}
use Rattle.dnsv_message.proofs.Sequences.{InOrder-append, FirstFault-front, FirstFault-behind}

-- the counts of a header that is there, and the questions that it counts
pub record Begun (octets : List ℕ) (question_count answer_count authority_count additional_count : ℕ) (questions : List Question) (place : ℕ) : Type 0 where
  pub header_there : 12 ≤ length octets
  pub question_count_at : NumberAt octets 4 2 question_count
  pub answer_count_at : NumberAt octets 6 2 answer_count
  pub authority_count_at : NumberAt octets 8 2 authority_count
  pub additional_count_at : NumberAt octets 10 2 additional_count
  pub questions_at : InOrder (QuestionAt octets) 12 questions place
  pub all_questions : length questions ≡ question_count

module _ {octets : List ℕ} {question_count answer_count authority_count additional_count : ℕ} {questions : List Question} {place : ℕ} (begun : Begun octets question_count answer_count authority_count additional_count questions place) where
  pub header_of : HeaderOf octets (number_at octets 0 2) (number_at octets 2 2) question_count answer_count authority_count additional_count
  header_of = record {
    identifier = (omega (arith, begun.header_there), refl);
    flag_bits = (omega (arith, begun.header_there), refl);
    question_count = begun.question_count_at;
    answer_count = begun.answer_count_at;
    authority_count = begun.authority_count_at;
    additional_count = begun.additional_count_at;
  }

  -- a fault of all records is one of the octets
  behind_questions : {error : DecodeError} → RecordsFault octets (answer_count + authority_count + additional_count) place error → FaultOf octets error
  behind_questions fault = inr (record {
    id = number_at octets 0 2;
    flags = number_at octets 2 2;
    question_count = question_count;
    answer_count = answer_count;
    authority_count = authority_count;
    additional_count = additional_count;
    header = header_of;
    fault = inr (record { questions = questions; end = place; stand = begun.questions_at; all = begun.all_questions; fault = fault });
  })

  fault_of_records : {error : DecodeError} → FirstFault (RecordAt octets) (RecordFaultAt octets) (answer_count + authority_count + additional_count) 1 place error → FaultOf octets error
  fault_of_records fault =
      behind_questions (inl fault)

  pub fault_of_answer : {error : DecodeError} → FirstFault (RecordAt octets) (RecordFaultAt octets) answer_count 1 place error → FaultOf octets error
  fault_of_answer {error} fault =
      fault_of_records (FirstFault-front (RecordAt octets) (RecordFaultAt octets) (answer_count + authority_count) additional_count 1 place error
      (FirstFault-front (RecordAt octets) (RecordFaultAt octets) answer_count authority_count 1 place error fault))

  module _ (answer : List Record) (after_answer : ℕ) (answer_at : InOrder (RecordAt octets) place answer after_answer) (all_answer : length answer ≡ answer_count) where
    pub fault_of_authority : {error : DecodeError} → FirstFault (RecordAt octets) (RecordFaultAt octets) authority_count (1 + answer_count) after_answer error → FaultOf octets error
    fault_of_authority {error} fault =
        fault_of_records (FirstFault-front (RecordAt octets) (RecordFaultAt octets) (answer_count + authority_count) additional_count 1 place error
        (FirstFault-behind (RecordAt octets) (RecordFaultAt octets) answer answer_count authority_count 1 place after_answer error answer_at all_answer fault))

    module _ (authority : List Record) (after_authority : ℕ) (authority_at : InOrder (RecordAt octets) after_answer authority after_authority) (all_authority : length authority ≡ authority_count) where
      both_at : InOrder (RecordAt octets) place (answer ++ authority) after_authority
      both_at = InOrder-append (RecordAt octets) answer authority place after_answer after_authority answer_at authority_at

      pub fault_of_additional : {error : DecodeError} → FirstFault (RecordAt octets) (RecordFaultAt octets) additional_count (1 + answer_count + authority_count) after_authority error → FaultOf octets error
      fault_of_additional {error} fault =
          fault_of_records (FirstFault-behind (RecordAt octets) (RecordFaultAt octets) (answer ++ authority) (answer_count + authority_count) additional_count 1 place after_authority error both_at
          (omega (arith, length-append answer authority, all_answer, all_authority))
          (subst (λ n. FirstFault (RecordAt octets) (RecordFaultAt octets) additional_count n after_authority error) (add_assoc 1 answer_count authority_count) fault))

      pub fault_of_rest : (additional : List Record) (end : ℕ) → InOrder (RecordAt octets) after_authority additional end → length additional ≡ additional_count → end < length octets → FaultOf octets TrailingBytes
      fault_of_rest additional end additional_at all_additional left =
          behind_questions (inr (record {
            records = (answer ++ authority) ++ additional;
            end = end;
            stand = InOrder-append (RecordAt octets) (answer ++ authority) additional place after_authority end both_at additional_at;
            all = omega (arith, length-append answer authority, length-append (answer ++ authority) additional, all_answer, all_authority, all_additional);
            more = left;
            is = refl;
          }))
