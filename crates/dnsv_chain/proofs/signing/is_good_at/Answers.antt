use Rattle.std.proofs.Common.{◌≡◌, ◌↔◌, IsTrue, Some, rules}
use Rattle.std.proofs.lemmas.Bool.{false≢true}
use Rattle.dnsv_verifier.specs.Table.{table_answer}
use Rattle.dnsv_verifier.specs.declared.answer.Answer.TheVariants.{Valid}
use Rattle.dnsv_chain.proofs.SigningLemmas.NumberLemmas.{good_by_found, good_is_made}
use Rattle.dnsv_chain.proofs.signing.is_good_at.Goals as goal

pub returns-then-not-may_have_made : goal.returns-then-not-may_have_made
returns-then-not-may_have_made c = λ rrset has verifiable. (
  λ yes. absurd (false≢true yes),
  λ good.
      let table = c.args.table.now in
      let made = c.may_have_made.ensures.1 (good_is_made (table_answer table) table.moment rrset c.args.rrsig.now c.args.key.now good) in
      let fails = c.if-not-may_have_made.true in absurd (cc),
)

pub returns : goal.returns
returns c = λ rrset has verifiable.
    let table = c.args.table.now in
    let made = c.may_have_made.ensures.0 c.if-not-may_have_made.false in
    let test : IsTrue c.eq.result ↔ (c.in_ok-answer.answer ≡ Some Valid) = search rules in
    let same = good_by_found table c.args.number rrset c.args.rrsig.now c.args.key.now c.in_ok-answer.answer has verifiable made c.in_ok-answer.ensures in
    (λ yes. same.0 (test.0 yes), λ good. test.1 (same.1 good))
