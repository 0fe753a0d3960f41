use Rattle.std.proofs.Common.{refl}
use Rattle.std.proofs.lemmas.Bool.{false≢true}
use Rattle.dnsv_verifier.specs.Table.{table_answer}
use Rattle.dnsv_chain.proofs.SigningLemmas.NumberLemmas.{good_under, good_under_none, has_number}
use Rattle.dnsv_chain.proofs.signing.is_good_by_number.Goals as goal

pub returns-then-branch : goal.returns-then-branch
returns-then-branch c =
    let table = c.args.answered.now.table.now in
    let rrset = c.args.answered.now.rrset.now in
    let has = has_number table.rrsets c.args.answered.now.number rrset c.args.number c.args.rrsig.now c.requires.rrset c.requires.signature in
    let test = c.in_ok-is_good_at.ensures rrset has c.requires.verifiable in (
      λ _. good_under (table_answer table) table.moment rrset c.args.rrsig.now c.args.keys.now c.loop-key.key-index c.key-item.result c.loop-key-test.true c.key-item.is
          (test.0 c.if-branch.true),
      λ _. refl,
    )

pub returns : goal.returns
returns c =
    let table = c.args.answered.now.table.now in
    (λ yes. absurd (false≢true yes), λ good. absurd (good_under_none (table_answer table) table.moment c.args.answered.now.rrset.now c.args.rrsig.now c.args.keys.now c.loop-key.key-index c.loop-key-test.false c.loop-key.invariant good))
