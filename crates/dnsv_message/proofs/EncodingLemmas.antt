-- The octets that are written for a message are the message.
pub mod OneEncoding
use Rattle.std.proofs.Common.{◌≡◌, ℕ, ◌+◌, ◌^◌, ◌<◌, ◌≤◌, List, [], ◌∷◌, ◌++◌, length, drop, false, All, refl, sym, ap, subst, ◌∙◌, arith, append_assoc, length-append, length-take, length-drop}
use Rattle.std.specs.Prelude.{flat_map}
use Rattle.std.specs.Int.{w16, w32, to_be_bytes, bytes_high_first}
use Rattle.std.proofs.lemmas.List.{take-append-drop, take_all}
use Rattle.std.proofs.lemmas.List.Elements.{All-from_recursion}
use Rattle.std.proofs.lemmas.Grind.{flat_map-append}
use Rattle.std.specs.List.{AllByRecursion}
use Rattle.byteorder.specs.Endian.{big_from}
use Rattle.byteorder.specs.Numbers.{big_number-reads_back, length-bytes_high_first}
use Rattle.dnsv_names.specs.Name.{wire}
use Rattle.dnsv_message.specs.declared.record.Question.{Question}
use Rattle.dnsv_message.specs.declared.record.Record.{Record}
use Rattle.dnsv_message.specs.Message.{Contents, records_of}
use Rattle.dnsv_message.specs.Layout.{layout_of}
use Rattle.dnsv_message.specs.NameAt.{NumberAt}
use Rattle.dnsv_message.specs.Grammar.{InOrder, QuestionAt, RecordAt, IsMessage}
use Rattle.dnsv_message.specs.Fits.{FitsQuestion, FitsRecord, FitsMessage}
use Rattle.dnsv_message.specs.Encoding.{question_octets, record_octets, header_octets, message_octets, PlainQuestionAt, PlainRecordAt, PlainMessageOf}
use Rattle.dnsv_message.proofs.Numbers.{number_behind}
use Rattle.dnsv_message.proofs.NameLaws.NameWalk.{part_within}
use Rattle.dnsv_message.proofs.Sequences.{InOrder-append}
use Rattle.dnsv_message.proofs.RecordParts.{up_to_type, up_to_class, up_to_ttl, up_to_size, length-up_to_type, length-up_to_class, length-up_to_ttl, length-up_to_size}
use Rattle.dnsv_message.proofs.RdataLemmas.RdataWritten.{Stands, Stands-end, InOrder-stands, InOrder-map, name_stands, rdata_stands}
use Rattle.dnsv_message.proofs.FitLemmas.{IsMessage-fits, answer_fits, authority_fits, additional_fits}

-- a number in its octets is read as it is
number_stands : (octets : List ℕ) (place n number : ℕ) → 0 < n → number < 256 ^ n → Stands octets place (bytes_high_first n number) → NumberAt octets place n number
number_stands octets place n number some small stands =
    let size : length (bytes_high_first n number) ≡ n = length-bytes_high_first n number in
    let parts : drop place octets ≡ bytes_high_first n number ++ drop (length (bytes_high_first n number)) (drop place octets) =
    sym (take-append-drop (length (bytes_high_first n number)) (drop place octets)) ∙ ap (λ xs. xs ++ drop (length (bytes_high_first n number)) (drop place octets)) stands.form in
    let within : place + n ≤ length octets = omega (arith, size, part_within octets place (bytes_high_first n number) (omega (arith, size)) stands.form) in
    (within, sym (big_number-reads_back n number (drop (length (bytes_high_first n number)) (drop place octets)) small) ∙ ap (big_from 0 n) (sym parts) ∙ sym (number_behind octets place n within))

module _ (octets : List ℕ) where
  u16_stands : (place number : ℕ) → number < 256 ^ 2 → Stands octets place (to_be_bytes w16 number) → NumberAt octets place 2 number
  u16_stands place number small stands = number_stands octets place 2 number (omega arith) small stands

  u32_stands : (place number : ℕ) → number < 256 ^ 4 → Stands octets place (to_be_bytes w32 number) → NumberAt octets place 4 number
  u32_stands place number small stands = number_stands octets place 4 number (omega arith) small stands

  -- a part ends within the octets, where it begins there
  end_of_part : (place : ℕ) (part : List ℕ) → Stands octets place part → place ≤ length octets → place + length part ≤ length octets
  end_of_part place part stands within =
      omega (arith, ap length stands.form, length-take (length part) (drop place octets), length-drop place octets)

  question_stands : (place : ℕ) (question : Question) → FitsQuestion question → Stands octets place (question_octets question) → PlainQuestionAt octets place question (place + length (question_octets question))
  question_stands place question fits stands =
      let after_name = place + length (wire question.name) in
      let one = wire question.name in
      let two = one ++ to_be_bytes w16 question.rtype.0 in
      let second = Stands-end two (to_be_bytes w16 question.class.0) (after_name + 2) (omega (arith, length-append one (to_be_bytes w16 question.rtype.0))) stands in
      let first = Stands-end one (to_be_bytes w16 question.rtype.0) after_name refl second.0 in (
        record {
          after_name = after_name;
          name = name_stands octets place question.name fits.name first.0;
          rtype = u16_stands after_name question.rtype.0 fits.rtype first.1;
          class = u16_stands (after_name + 2) question.class.0 fits.class second.1;
          ends = omega (arith, length-append one (to_be_bytes w16 question.rtype.0), length-append two (to_be_bytes w16 question.class.0));
        },
        first.0.form,
      )

  record_stands : (place : ℕ) (resource : Record) → FitsRecord resource → Stands octets place (record_octets resource) → PlainRecordAt octets place resource (place + length (record_octets resource))
  record_stands place resource fits stands =
      let after_name = place + length (wire resource.name) in
      let rtype = to_be_bytes w16 resource.rtype.0 in
      let class = to_be_bytes w16 resource.class.0 in
      let ttl = to_be_bytes w32 resource.ttl.0 in
      let size = to_be_bytes w16 (length resource.rdata) in
      let one = wire resource.name in
      let two = up_to_type resource in
      let three = up_to_class resource in
      let four = up_to_ttl resource in
      let five = up_to_size resource in
      let fifth = Stands-end five resource.rdata (after_name + 10) (omega (arith, length-up_to_size resource)) stands in
      let fourth = Stands-end four size (after_name + 8) (omega (arith, length-up_to_ttl resource)) fifth.0 in
      let third = Stands-end three ttl (after_name + 4) (omega (arith, length-up_to_class resource)) fourth.0 in
      let second = Stands-end two class (after_name + 2) (omega (arith, length-up_to_type resource)) third.0 in
      let first = Stands-end one rtype after_name refl second.0 in
      let sized : length resource.rdata < 256 ^ 2 = omega (arith, fits.size) in
      let parts = rdata_stands octets resource.rtype.0 resource.class.0 in
      record {
        stands = record {
          start = after_name + 10;
          size = length resource.rdata;
          head = record {
            after_name = after_name;
            named = name_stands octets place resource.name fits.name first.0;
            typed = u16_stands after_name resource.rtype.0 fits.rtype first.1;
            classed = u16_stands (after_name + 2) resource.class.0 fits.class second.1;
            timed = u32_stands (after_name + 4) resource.ttl.0 fits.ttl third.1;
            sized = u16_stands (after_name + 8) (length resource.rdata) sized fourth.1;
            starts = refl;
          };
          whole = end_of_part (after_name + 10) resource.rdata fifth.1 (omega (arith, (u16_stands (after_name + 8) (length resource.rdata) sized fourth.1).0));
          rdata = parts (layout_of resource.rtype.0 resource.class.0).pointers (after_name + 10) resource.rdata fits.parts fifth.1;
          ends = omega (arith, length-append five resource.rdata, length-up_to_size resource);
        };
        name = first.0.form;
        rdata = parts false (after_name + 10) resource.rdata fits.parts fifth.1;
      }

  questions_stand : (questions : List Question) (place : ℕ) → AllByRecursion FitsQuestion questions → Stands octets place (flat_map question_octets questions) → InOrder (PlainQuestionAt octets) place questions (place + length (flat_map question_octets questions))
  questions_stand questions place fits stands =
      InOrder-stands (PlainQuestionAt octets) octets (place + length (flat_map question_octets questions)) question_octets FitsQuestion
      (λ at question fit there within. question_stands at question fit there) questions place fits stands (omega arith)

  records_stand : (records : List Record) (place : ℕ) → AllByRecursion FitsRecord records → Stands octets place (flat_map record_octets records) → InOrder (PlainRecordAt octets) place records (place + length (flat_map record_octets records))
  records_stand records place fits stands =
      InOrder-stands (PlainRecordAt octets) octets (place + length (flat_map record_octets records)) record_octets FitsRecord
      (λ at resource fit there within. record_stands at resource fit there) records place fits stands (omega arith)

  records_are : (records : List Record) (place end : ℕ) → InOrder (PlainRecordAt octets) place records end → InOrder (RecordAt octets) place records end
  records_are = InOrder-map (PlainRecordAt octets) (RecordAt octets) (λ place resource end at. at.stands)

  -- octets that are written for a message are the message, and have no pointer
  message_stands : (message : Contents) → FitsMessage message → Stands octets 0 (message_octets message) → length octets ≡ length (message_octets message) → PlainMessageOf octets message
  message_stands message fits stands size =
      let id = to_be_bytes w16 message.id in
      let flags = to_be_bytes w16 message.flags in
      let question_count = to_be_bytes w16 (length message.questions) in
      let answer_count = to_be_bytes w16 (length message.answer) in
      let authority_count = to_be_bytes w16 (length message.authority) in
      let additional_count = to_be_bytes w16 (length message.additional) in
      let header = header_octets message in
      let questions = flat_map question_octets message.questions in
      let records = flat_map record_octets (records_of message) in
      let answer = flat_map record_octets message.answer in
      let authority = flat_map record_octets message.authority in
      let additional = flat_map record_octets message.additional in
      let sections : records ≡ answer ++ authority ++ additional =
      flat_map-append record_octets (message.answer ++ message.authority) message.additional ∙ ap (λ xs. xs ++ additional) (flat_map-append record_octets message.answer message.authority) in
      let after_questions = 12 + length questions in
      let after_answer = after_questions + length answer in
      let after_authority = after_answer + length authority in
      let body = Stands-end (header ++ questions) records after_questions (omega (arith, length-append header questions)) stands in
      let front = Stands-end header questions 12 refl body.0 in
      let third = Stands-end (answer ++ authority) additional after_authority (omega (arith, length-append answer authority)) (subst (Stands octets after_questions) sections body.1) in
      let second = Stands-end answer authority after_answer refl third.0 in
      let end : after_authority + length additional ≡ length octets =
      omega (arith, size, length-append (header ++ questions) records, length-append header questions, ap length sections, length-append (answer ++ authority) additional, length-append answer authority) in
      let six = Stands-end (id ++ flags ++ question_count ++ answer_count ++ authority_count) additional_count 10 refl front.0 in
      let five = Stands-end (id ++ flags ++ question_count ++ answer_count) authority_count 8 refl six.0 in
      let four = Stands-end (id ++ flags ++ question_count) answer_count 6 refl five.0 in
      let three = Stands-end (id ++ flags) question_count 4 refl four.0 in
      let two = Stands-end id flags 2 refl three.0 in
      let plain_questions = questions_stand message.questions 12 fits.questions front.1 in
      let plain_answer = records_stand message.answer after_questions (answer_fits message fits) second.0 in
      let plain_authority = records_stand message.authority after_answer (authority_fits message fits) second.1 in
      let plain_additional = subst (InOrder (PlainRecordAt octets) after_authority message.additional) end (records_stand message.additional after_authority (additional_fits message fits) third.1) in
      record {
        whole = record {
          header = record {
            identifier = u16_stands 0 message.id fits.id two.0;
            flag_bits = u16_stands 2 message.flags fits.flags two.1;
            question_count = u16_stands 4 (length message.questions) fits.question_count three.1;
            answer_count = u16_stands 6 (length message.answer) fits.answer_count four.1;
            authority_count = u16_stands 8 (length message.authority) fits.authority_count five.1;
            additional_count = u16_stands 10 (length message.additional) fits.additional_count six.1;
          };
          after_questions = after_questions;
          after_answer = after_answer;
          after_authority = after_authority;
          questions = InOrder-map (PlainQuestionAt octets) (QuestionAt octets) (λ place question end at. at.0) message.questions 12 after_questions plain_questions;
          answer = records_are message.answer after_questions after_answer plain_answer;
          authority = records_are message.authority after_answer after_authority plain_authority;
          additional = records_are message.additional after_authority (length octets) plain_additional;
        };
        after_questions = after_questions;
        questions = plain_questions;
        records = InOrder-append (PlainRecordAt octets) (message.answer ++ message.authority) message.additional after_questions after_authority (length octets)
            (InOrder-append (PlainRecordAt octets) message.answer message.authority after_questions after_answer after_authority plain_answer plain_authority) plain_additional;
      }

-- where some octets are a message, those that are written for it are, too, and have no pointer
pub encoded_message : (message : Contents) → IsMessage message → (octets : List ℕ) → octets ≡ message_octets message → PlainMessageOf octets message
encoded_message message is octets written =
    message_stands octets message (IsMessage-fits message is)
    (record { form = take_all (length (message_octets message)) octets (omega (arith, ap length written)) ∙ written })
    (ap length written)

-- the RDATA of a message's records have lengths of 16 bits
pub records_sized : (records others : List Record) → AllByRecursion FitsRecord records → others ≡ records → All (λ resource. length resource.rdata < 2 ^ 16) others
records_sized records others fits same =
    let sized : All (λ resource. length resource.rdata < 2 ^ 16) records = All-from_recursion (λ resource. length resource.rdata < 2 ^ 16) records (each_sized records fits) in
    subst (All (λ resource. length resource.rdata < 2 ^ 16)) (sym same) sized where
      each_sized : (records : List Record) → AllByRecursion FitsRecord records → AllByRecursion (λ resource. length resource.rdata < 2 ^ 16) records
      each_sized [] fits = tt
      each_sized (resource ∷ records) fits = (omega (arith, fits.0.size), each_sized records fits.1)

-- the octets of things that are the same
pub written_same : {X : Type 0} (octets_of : X → List ℕ) (before after : List ℕ) (xs ys : List X) → xs ≡ ys → after ≡ before ++ flat_map octets_of xs → after ≡ before ++ flat_map octets_of ys
written_same octets_of before after xs ys same written = written ∙ ap (λ zs. before ++ flat_map octets_of zs) same

-- a message is written part by part
pub message_written : (message : Contents) (header questions answer authority additional : List ℕ) → header ≡ header_octets message → questions ≡ header ++ flat_map question_octets message.questions
    → answer ≡ questions ++ flat_map record_octets message.answer → authority ≡ answer ++ flat_map record_octets message.authority → additional ≡ authority ++ flat_map record_octets message.additional
    → additional ≡ message_octets message
message_written message header questions answer authority additional header_is questions_are answer_is authority_is additional_is =
    let record_parts : List Record → List ℕ = flat_map record_octets in
    let front : questions ≡ header_octets message ++ flat_map question_octets message.questions = questions_are ∙ ap (λ xs. xs ++ flat_map question_octets message.questions) header_is in
    additional_is
    ∙ ap (λ xs. xs ++ record_parts message.additional)
    (authority_is ∙ ap (λ xs. xs ++ record_parts message.authority) answer_is ∙ append_assoc questions (record_parts message.answer) (record_parts message.authority)
    ∙ ap (λ xs. questions ++ xs) (sym (flat_map-append record_octets message.answer message.authority)))
    ∙ append_assoc questions (record_parts (message.answer ++ message.authority)) (record_parts message.additional)
    ∙ ap (λ xs. questions ++ xs) (sym (flat_map-append record_octets (message.answer ++ message.authority) message.additional))
    ∙ ap (λ xs. xs ++ record_parts (records_of message)) front
