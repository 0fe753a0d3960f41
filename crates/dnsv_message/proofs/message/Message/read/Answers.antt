use Rattle.std.proofs.Common.{◌≡◌, ◌<◌, ◌++◌, length, sym, ap, subst, ◌∙◌, inl, inr, ⊎_elim, arith}
use Rattle.std.specs.Option.{option_or}
use Rattle.std.proofs.lemmas.List.Elements.{All-from_get_or, recursion_from_All}
use Rattle.std.proofs.lemmas.Result.{err_from_is_err_and}
use Rattle.dnsv_message.specs.Grammar.{InOrder, RecordAt}
use Rattle.dnsv_message.specs.Message.{Contents}
use Rattle.dnsv_message.specs.Tail.{LastAt}
use Rattle.dnsv_message.proofs.TailLemmas.{IsTailOf-from_last, LastAt-or_or}
use Rattle.dnsv_message.proofs.Faults.{Begun, fault_of_answer, fault_of_authority, fault_of_additional, fault_of_rest}
use Rattle.dnsv_message.proofs.message.Message.read.Goals as goal

pub returns-in_err-answer-clause-fault : goal.returns-in_err-answer-clause-fault
returns-in_err-answer-clause-fault c =
    let p = err_from_is_err_and c.from_residual-in_err-answer.result c.from_residual-in_err-answer.ensures.1 in
    let begun : Begun c.args.octets.now c.u16_at-question_count.result c.u16_at-answer_count.result c.u16_at-authority_count.result c.u16_at-additional_count.result c.in_ok-questions.questions.items c.in_ok-questions.place = record { header_there = c.if-octets-lt-HEADER_LENGTH.false; question_count_at = (omega (arith, c.if-octets-lt-HEADER_LENGTH.false), c.u16_at-question_count.ensures); answer_count_at = (omega (arith, c.if-octets-lt-HEADER_LENGTH.false), c.u16_at-answer_count.ensures); authority_count_at = (omega (arith, c.if-octets-lt-HEADER_LENGTH.false), c.u16_at-authority_count.ensures); additional_count_at = (omega (arith, c.if-octets-lt-HEADER_LENGTH.false), c.u16_at-additional_count.ensures); questions_at = c.in_ok-questions.ensures.found; all_questions = c.in_ok-questions.ensures.count } in
    rw (p.1, p.2) (⊎_elim (λ memory. inl memory) (λ fault. inr (fault_of_answer begun fault)) c.in_err-answer.ensures.fault)

pub returns-in_err-authority-clause-fault : goal.returns-in_err-authority-clause-fault
returns-in_err-authority-clause-fault c =
    let p = err_from_is_err_and c.from_residual-in_err-authority.result c.from_residual-in_err-authority.ensures.1 in
    let begun : Begun c.args.octets.now c.u16_at-question_count.result c.u16_at-answer_count.result c.u16_at-authority_count.result c.u16_at-additional_count.result c.in_ok-questions.questions.items c.in_ok-questions.place = record { header_there = c.if-octets-lt-HEADER_LENGTH.false; question_count_at = (omega (arith, c.if-octets-lt-HEADER_LENGTH.false), c.u16_at-question_count.ensures); answer_count_at = (omega (arith, c.if-octets-lt-HEADER_LENGTH.false), c.u16_at-answer_count.ensures); authority_count_at = (omega (arith, c.if-octets-lt-HEADER_LENGTH.false), c.u16_at-authority_count.ensures); additional_count_at = (omega (arith, c.if-octets-lt-HEADER_LENGTH.false), c.u16_at-additional_count.ensures); questions_at = c.in_ok-questions.ensures.found; all_questions = c.in_ok-questions.ensures.count } in
    rw (p.1, p.2) (⊎_elim (λ memory. inl memory) (λ fault. inr (fault_of_authority begun c.in_ok-answer.field-0.records.items c.in_ok-answer.field-0.end c.in_ok-answer.ensures.found c.in_ok-answer.ensures.count fault)) c.in_err-authority.ensures.fault)

pub returns-in_err-additional-clause-fault : goal.returns-in_err-additional-clause-fault
returns-in_err-additional-clause-fault c =
    let p = err_from_is_err_and c.from_residual-in_err-additional.result c.from_residual-in_err-additional.ensures.1 in
    let begun : Begun c.args.octets.now c.u16_at-question_count.result c.u16_at-answer_count.result c.u16_at-authority_count.result c.u16_at-additional_count.result c.in_ok-questions.questions.items c.in_ok-questions.place = record { header_there = c.if-octets-lt-HEADER_LENGTH.false; question_count_at = (omega (arith, c.if-octets-lt-HEADER_LENGTH.false), c.u16_at-question_count.ensures); answer_count_at = (omega (arith, c.if-octets-lt-HEADER_LENGTH.false), c.u16_at-answer_count.ensures); authority_count_at = (omega (arith, c.if-octets-lt-HEADER_LENGTH.false), c.u16_at-authority_count.ensures); additional_count_at = (omega (arith, c.if-octets-lt-HEADER_LENGTH.false), c.u16_at-additional_count.ensures); questions_at = c.in_ok-questions.ensures.found; all_questions = c.in_ok-questions.ensures.count } in
    rw (p.1, p.2) (⊎_elim (λ memory. inl memory) (λ fault. inr (fault_of_additional begun c.in_ok-answer.field-0.records.items c.in_ok-answer.field-0.end c.in_ok-answer.ensures.found c.in_ok-answer.ensures.count c.in_ok-authority.field-0.records.items c.in_ok-authority.field-0.end c.in_ok-authority.ensures.found c.in_ok-authority.ensures.count fault)) c.in_err-additional.ensures.fault)

pub returns-then-after_additional-octets-clause-fault : goal.returns-then-after_additional-octets-clause-fault
returns-then-after_additional-octets-clause-fault c =
    let begun : Begun c.args.octets.now c.u16_at-question_count.result c.u16_at-answer_count.result c.u16_at-authority_count.result c.u16_at-additional_count.result c.in_ok-questions.questions.items c.in_ok-questions.place = record { header_there = c.if-octets-lt-HEADER_LENGTH.false; question_count_at = (omega (arith, c.if-octets-lt-HEADER_LENGTH.false), c.u16_at-question_count.ensures); answer_count_at = (omega (arith, c.if-octets-lt-HEADER_LENGTH.false), c.u16_at-answer_count.ensures); authority_count_at = (omega (arith, c.if-octets-lt-HEADER_LENGTH.false), c.u16_at-authority_count.ensures); additional_count_at = (omega (arith, c.if-octets-lt-HEADER_LENGTH.false), c.u16_at-additional_count.ensures); questions_at = c.in_ok-questions.ensures.found; all_questions = c.in_ok-questions.ensures.count } in
    inr (fault_of_rest begun c.in_ok-answer.field-0.records.items c.in_ok-answer.field-0.end c.in_ok-answer.ensures.found c.in_ok-answer.ensures.count c.in_ok-authority.field-0.records.items c.in_ok-authority.field-0.end c.in_ok-authority.ensures.found c.in_ok-authority.ensures.count c.in_ok-additional.field-0.records.items c.in_ok-additional.field-0.end c.in_ok-additional.ensures.found c.in_ok-additional.ensures.count c.if-after_additional-octets.true)

pub invariant_of-message : goal.invariant_of-message
invariant_of-message c =
    let questions = c.in_ok-questions.ensures.within c.if-octets-lt-HEADER_LENGTH.false in
    let authority = c.in_ok-authority.ensures.within (c.in_ok-answer.ensures.within questions) in
    let ends : c.in_ok-additional.field-0.end ≡ length c.args.octets.now = omega (arith, c.if-after_additional-octets.false, c.in_ok-additional.ensures.within authority) in (
      c.args.octets.now,
      recursion_from_All (λ octet. octet < 256) c.args.octets.now (All-from_get_or (λ octet. octet < 256) c.args.octets.now 0 (λ i within. omega (arith, c.type_inv.octets i))),
      record {
        header = record { identifier = (omega (arith, c.if-octets-lt-HEADER_LENGTH.false), c.u16_at.ensures); flag_bits = (omega (arith, c.if-octets-lt-HEADER_LENGTH.false), c.u16_at-2.ensures); question_count = rw c.in_ok-questions.ensures.count (omega (arith, c.if-octets-lt-HEADER_LENGTH.false), c.u16_at-question_count.ensures); answer_count = rw c.in_ok-answer.ensures.count (omega (arith, c.if-octets-lt-HEADER_LENGTH.false), c.u16_at-answer_count.ensures); authority_count = rw c.in_ok-authority.ensures.count (omega (arith, c.if-octets-lt-HEADER_LENGTH.false), c.u16_at-authority_count.ensures); additional_count = rw c.in_ok-additional.ensures.count (omega (arith, c.if-octets-lt-HEADER_LENGTH.false), c.u16_at-additional_count.ensures) };
        after_questions = c.in_ok-questions.place;
        after_answer = c.in_ok-answer.field-0.end;
        after_authority = c.in_ok-authority.field-0.end;
        questions = c.in_ok-questions.ensures.found;
        answer = c.in_ok-answer.ensures.found;
        authority = c.in_ok-authority.ensures.found;
        additional = subst (InOrder (RecordAt c.args.octets.now) c.in_ok-authority.field-0.end c.in_ok-additional.field-0.records.items) ends c.in_ok-additional.ensures.found;
      },
    )

pub returns-clause-tail : goal.returns-clause-tail
returns-clause-tail c =
    let octets = c.args.octets.now in
    let answer = c.in_ok-answer.field-0 in
    let authority = c.in_ok-authority.field-0 in
    let additional = c.in_ok-additional.field-0 in
    let all = answer.records.items ++ authority.records.items ++ additional.records.items in
    let ends : additional.end ≡ length octets =
    omega (arith, c.if-after_additional-octets.false, c.in_ok-additional.ensures.within (c.in_ok-authority.ensures.within (c.in_ok-answer.ensures.within (c.in_ok-questions.ensures.within c.if-octets-lt-HEADER_LENGTH.false)))) in
    let tail : c.or-tail.result ≡ option_or (option_or additional.tail authority.tail) answer.tail = c.or-tail.ensures ∙ ap (λ o. option_or o answer.tail) c.or.ensures in
    let last = LastAt-or_or (RecordAt octets) answer.records.items authority.records.items additional.records.items c.in_ok-questions.place answer.end authority.end additional.end answer.tail authority.tail additional.tail
    c.in_ok-answer.ensures.found c.in_ok-authority.ensures.found c.in_ok-additional.ensures.found c.in_ok-answer.ensures.tail c.in_ok-authority.ensures.tail c.in_ok-additional.ensures.tail in
    let message : Contents = record {
      id = c.u16_at.result;
      flags = c.u16_at-2.result;
      questions = c.in_ok-questions.questions.items;
      answer = answer.records.items;
      authority = authority.records.items;
      additional = additional.records.items;
    } in
    IsTailOf-from_last octets message c.in_ok-questions.place c.or-tail.result c.in_ok-questions.ensures.found
    (subst (LastAt (RecordAt octets) c.in_ok-questions.place all (length octets)) (sym tail)
    (subst (λ n. LastAt (RecordAt octets) c.in_ok-questions.place all n (option_or (option_or additional.tail authority.tail) answer.tail)) ends last))
