use Rattle.std.proofs.Common.{rules, ◌≡◌, ◌++◌, ◌+◌, length, string_bytes, flat_map, ap, arith, length-append}
use Rattle.std.proofs.lemmas.Result.{IfOk-weaker}
use Rattle.dnsv_evidence_texts.specs.Showing.{texts_from, message_line, question_line, record_line}
use Rattle.dnsv_evidence_texts.proofs.ShowingLemmas.{message_written}
use Rattle.dnsv_evidence_texts.proofs.showing.push_message.Goals as goal

pub returns : goal.returns
returns c =
    let message = c.args.message.now in
    let answered = length c.records-answer.result.now in
    let vouched = length c.records-authority.result.now in
    let first : string_bytes c.push_header.new.text ≡ string_bytes c.args.text.now ++ message_line c.args.number message = search rules in
    let second : string_bytes c.push_questions.new.text ≡ string_bytes c.push_header.new.text ++ flat_map question_line message.questions = search rules in
    let third : string_bytes c.push_records.new.text ≡ string_bytes c.push_questions.new.text ++ texts_from record_line (0 + 1) message.answer = search rules in
    let fourth : string_bytes c.push_records-2.new.text ≡ string_bytes c.push_records.new.text ++ texts_from record_line (answered + 1) message.authority = search rules in
    let is_answered : answered ≡ length message.answer = ap length c.records-answer.ensures in
    let is_vouched : vouched ≡ length message.authority = ap length c.records-authority.ensures in
    IfOk-weaker c.push_records-3.result _ _ (λ done written.
    message_written c.args.number message (string_bytes c.args.text.now) (string_bytes c.push_header.new.text) (string_bytes c.push_questions.new.text)
    (string_bytes c.push_records.new.text) (string_bytes c.push_records-2.new.text) (string_bytes c.push_records-3.new.text)
    (0 + 1) (answered + 1) (answered + vouched + 1) first second third fourth (rw (← c.records-additional.ensures) written)
    (omega arith) (omega (arith, is_answered)) (omega (arith, is_answered, is_vouched, length-append message.answer message.authority))) c.push_records-3.ensures
