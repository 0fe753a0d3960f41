use Rattle.std.proofs.Common.{◌≡◌, ℕ, Some}
use Rattle.dnsv_message.specs.Message.{Contents}
use Rattle.dnsv_message.specs.Tail.{TailAt}
use Rattle.dnsv_tsig.proofs.AnswerLaws.{one_answer_of}
use Rattle.dnsv_tsig.proofs.SomeAnswer.{some_answer}
use Rattle.dnsv_tsig.proofs.laws.one_answer.Goals as goal

pub returns-clause-some : goal.returns-clause-some
returns-clause-some c = λ octets are keys now request.
    some_answer octets keys now request (c.message_or_fault.ensures octets are) (c.one_tail.ensures.some octets)

pub returns-clause-one : goal.returns-clause-one
returns-clause-one c = λ octets are keys now request answer other.
    let one_place = λ (m : Contents) (p q : ℕ) (at : TailAt octets m p) (also : TailAt octets m q).
    let same = c.one_tail.ensures.one octets are m (Some p) (Some q) at also in let places : p ≡ q = cc in places in
    one_answer_of octets keys now request answer other (c.one_message.ensures octets are) (c.one_fault.ensures octets are) (c.no_fault_of_a_message.ensures octets are) one_place
