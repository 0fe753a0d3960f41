use Rattle.std.proofs.Common.{◌≡◌, ℕ, List, [], Option, inr, sym, subst, arith}
use Rattle.std.proofs.lemmas.Result.{err_from_is_err_and}
use Rattle.dnsv_message.specs.declared.record.Record.{Record}
use Rattle.dnsv_message.specs.Message.{records_of}
use Rattle.dnsv_message.specs.Tail.{IsTailOf, TailAt}
use Rattle.dnsv_message.specs.Tail.TailLaws.{TailAt-bounds}
use Rattle.dnsv_tsig.specs.Answer.{LacksTsig, readable, unsigned}
use Rattle.dnsv_tsig.proofs.AnswerLemmas.{told_fault, told_lacking, told_signed}
use Rattle.dnsv_tsig.proofs.opened.open.Goals as goal

pub returns-in_err-message : goal.returns-in_err-message
returns-in_err-message c =
    let p = err_from_is_err_and c.from_residual.result c.from_residual.ensures.1 in
    rw p.1 (told_fault c.args.octets.now c.args.keys.now c.args.now _ c.in_err-message.field-0.0 p.0 p.2 c.in_err-message.ensures.fault)

pub returns-in_default : goal.returns-in_default
returns-in_default c =
    let IsTail : Option ℕ → Type 0 = λ tail. IsTailOf c.args.octets.now c.in_ok-message.message tail in
    let Lacks : List Record → Type 0 = λ records. LacksTsig records in
    let none : records_of c.in_ok-message.message ≡ [] = subst IsTail c.in_default.is c.in_ok-message.ensures.tail in
    inr (readable c.in_ok-message.ensures.found (unsigned (subst Lacks (sym none) tt)))

pub returns-in_err-signature : goal.returns-in_err-signature
returns-in_err-signature c =
    let p = err_from_is_err_and c.from_residual-in_err-signature.result c.from_residual-in_err-signature.ensures.1 in
    rw (p.1, p.2) (inr (told_lacking c.args.octets.now c.in_ok-message.message c.args.keys.now c.args.now _ c.in_err-signature.field-0.0 c.in_ok-message.ensures.found c.in_err-signature.ensures.lacking))

pub answer-requires-clause-header : goal.answer-requires-clause-header
answer-requires-clause-header c =
    let IsTail : Option ℕ → Type 0 = λ tail. IsTailOf c.args.octets.now c.in_ok-message.message tail in
    let at : TailAt c.args.octets.now c.in_ok-message.message c.in-Some.place = subst IsTail c.in-Some.is c.in_ok-message.ensures.tail in
    (TailAt-bounds c.args.octets.now c.in_ok-message.message c.in-Some.place at).0

pub answer-requires-clause-within : goal.answer-requires-clause-within
answer-requires-clause-within c =
    let IsTail : Option ℕ → Type 0 = λ tail. IsTailOf c.args.octets.now c.in_ok-message.message tail in
    let at : TailAt c.args.octets.now c.in_ok-message.message c.in-Some.place = subst IsTail c.in-Some.is c.in_ok-message.ensures.tail in
    omega (arith, (TailAt-bounds c.args.octets.now c.in_ok-message.message c.in-Some.place at).1)

pub returns : goal.returns
returns c =
    let IsTail : Option ℕ → Type 0 = λ tail. IsTailOf c.args.octets.now c.in_ok-message.message tail in
    let at : TailAt c.args.octets.now c.in_ok-message.message c.in-Some.place = subst IsTail c.in-Some.is c.in_ok-message.ensures.tail in
    told_signed c.args.octets.now c.in_ok-message.message c.args.keys.now c.args.now _ c.in_ok-signature.signature.owner.now c.in_ok-signature.signature.tsig c.in-Some.place c.answer.result
    c.in_ok-message.ensures.found c.in_ok-signature.ensures.found at c.answer.ensures
