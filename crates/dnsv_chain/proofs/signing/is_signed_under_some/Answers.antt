use Rattle.std.proofs.Common.{refl}
use Rattle.std.proofs.lemmas.Bool.{false≢true}
use Rattle.dnsv_verifier.specs.Table.{table_answer}
use Rattle.dnsv_chain.proofs.SigningLemmas.{signed_found, none_signed}
use Rattle.dnsv_chain.proofs.SigningLemmas.NumberLemmas.{signature_here}
use Rattle.dnsv_chain.proofs.signing.is_signed_under_some.Goals as goal

pub is_good_under_some-requires-clause-signature : goal.is_good_under_some-requires-clause-signature
is_good_under_some-requires-clause-signature c =
    signature_here c.args.answered.now.rrset.now c.signatures-rrsig-items.result.now c.loop-place.place c.rrsig-item.result c.signatures-rrsig-items.ensures c.loop-place-test.true c.rrsig-item.is

pub returns-then-branch : goal.returns-then-branch
returns-then-branch c =
    let table = c.args.answered.now.table.now in
    (λ _. signed_found (table_answer table) table.moment c.args.answered.now.rrset.now c.signatures-rrsig-items.result.now c.signatures-rrsig-items.ensures c.args.keys.now c.loop-place.place c.rrsig-item.result c.loop-place-test.true c.rrsig-item.is (c.in_ok-is_good_under_some.ensures.0 c.if-branch.true), λ _. refl)

pub returns : goal.returns
returns c =
    let table = c.args.answered.now.table.now in
    (λ no_truth. absurd (false≢true no_truth), λ signed. absurd (none_signed (table_answer table) table.moment c.args.answered.now.rrset.now c.signatures-rrsig-items.result.now c.signatures-rrsig-items.ensures c.args.keys.now c.loop-place.place c.loop-place-test.false c.loop-place.invariant signed))
