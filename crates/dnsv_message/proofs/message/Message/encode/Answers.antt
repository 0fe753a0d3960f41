use Rattle.std.proofs.Common.{sym, ap, subst, ◌∙◌}
use Rattle.dnsv_message.specs.Grammar.{IsMessage}
use Rattle.dnsv_message.specs.Encoding.{question_octets, record_octets}
use Rattle.dnsv_message.proofs.Numbers.{octet_fits}
use Rattle.dnsv_message.proofs.EncodingLemmas.OneEncoding.{PlainMessageOf-written}
use Rattle.dnsv_message.proofs.FitLemmas.{IsMessage-fits, answer_fits, authority_fits, additional_fits}
use Rattle.dnsv_message.proofs.EncodingLemmas.{encoded_message, records_sized, written_same, message_written}
use Rattle.dnsv_message.proofs.message.Message.encode.Goals as goal

pub push_records-requires : goal.push_records-requires
push_records-requires c = records_sized _ _ (answer_fits _ (IsMessage-fits _ c.self.invariant)) c.deref-2.ensures.value

pub push_records-requires-2 : goal.push_records-requires-2
push_records-requires-2 c = records_sized _ _ (authority_fits _ (IsMessage-fits _ c.self.invariant)) c.deref-3.ensures.value

pub push_records-requires-3 : goal.push_records-requires-3
push_records-requires-3 c = records_sized _ _ (additional_fits _ (IsMessage-fits _ c.self.invariant)) c.deref-4.ensures.value

pub returns-clause-value : goal.returns-clause-value
returns-clause-value c =
    message_written c.args.self.now c.in_ok-octets.octets.items c.push_questions.new.octets.items c.push_records.new.octets.items c.push_records-2.new.octets.items c.push_records-3.new.octets.items
    c.in_ok-octets.ensures
    (written_same question_octets _ _ _ _ (c.deref.ensures.value ∙ ap (λ m. m.questions) c.self.view_is) c.in_ok-push_questions.ensures)
    (written_same record_octets _ _ _ _ (c.deref-2.ensures.value ∙ ap (λ m. m.answer) c.self.view_is) c.in_ok-push_records.ensures)
    (written_same record_octets _ _ _ _ (c.deref-3.ensures.value ∙ ap (λ m. m.authority) c.self.view_is) c.in_ok-push_records-2.ensures)
    (written_same record_octets _ _ _ _ (c.deref-4.ensures.value ∙ ap (λ m. m.additional) c.self.view_is) c.in_ok-push_records-3.ensures)

pub returns-clause-read : goal.returns-clause-read
returns-clause-read c =
    encoded_message c.args.self.now (subst IsMessage c.self.view_is c.self.invariant) c.push_records-3.new.octets.items (returns-clause-value c)

pub returns-clause-only : goal.returns-clause-only
returns-clause-only c = λ octets are plain.
    returns-clause-value c ∙ sym (PlainMessageOf-written octets (octet_fits octets are) c.args.self.now plain)
