use Rattle.std.proofs.Common.{◌+◌, List, ℕ, sym, ap, ◌∙◌, subst}
use Rattle.std.proofs.lemmas.Bool.{false≢true}
use Rattle.dnsv_verifier.specs.Admissible.{DnskeyRecord}
use Rattle.dnsv_verifier.specs.Table.{table_answer}
use Rattle.dnsv_anchors.specs.ByOwner.{values_at}
use Rattle.dnsv_chain.specs.Signing.{AreGoodNumbersTo, IsGoodUnderSome}
use Rattle.dnsv_chain.proofs.SigningLemmas.{number_more, number_skip, all_numbers}
use Rattle.dnsv_chain.proofs.SigningLemmas.NumberLemmas.{signature_here}
use Rattle.dnsv_chain.proofs.signing.good_numbers.Goals as goal
use Rattle.dnsv_chain.proofs.signing.good_numbers.Goals.{then-branch+in_ok-push, else-branch}

pub is_good_under_some-requires-clause-signature : goal.is_good_under_some-requires-clause-signature
is_good_under_some-requires-clause-signature c =
    signature_here c.args.answered.now.rrset.now c.signatures-rrsig-items.result.now c.loop-place.place c.rrsig-item.result c.signatures-rrsig-items.ensures c.loop-place-test.true c.rrsig-item.is

pub loop-place-preserved : goal.loop-place-preserved
loop-place-preserved c =
    let table = c.args.answered.now.table.now in
    let rrset = c.args.answered.now.rrset.now in
    let rrsig = c.rrsig-item.result in
    let i : ℕ = c.loop-place.place in
    let good = c.in_ok-is_good_under_some.ensures in
    let So_far : List ℕ → Type 0 = λ numbers. AreGoodNumbersTo (table_answer table) table.moment rrset (values_at c.args.keys.now) (i + 1) numbers in
    let Good : List DnskeyRecord → Type 0 = λ keys. IsGoodUnderSome (table_answer table) table.moment rrset rrsig keys in
    elim c.if-branch.branch [
      | then-branch+in_ok-push w ↦
          subst So_far (sym (ap (λ v. v.items) w.numbers-is ∙ w.in_ok-push.ensures.items))
          (number_more (table_answer table) table.moment rrset c.signatures-rrsig-items.result.now c.signatures-rrsig-items.ensures (values_at c.args.keys.now) i rrsig c.loop-place.numbers.items c.loop-place-test.true c.rrsig-item.is (subst Good c.at-own.ensures (good.0 w.if-branch.true)) c.loop-place.invariant)
      | else-branch w ↦
          subst So_far (sym (ap (λ v. v.items) w.numbers-is))
          (number_skip (table_answer table) table.moment rrset c.signatures-rrsig-items.result.now c.signatures-rrsig-items.ensures (values_at c.args.keys.now) i rrsig c.loop-place.numbers.items c.loop-place-test.true c.rrsig-item.is (λ is. false≢true (sym w.if-branch.false ∙ good.1 (subst Good (sym c.at-own.ensures) is))) c.loop-place.invariant)
    ]

pub returns : goal.returns
returns c =
    let table = c.args.answered.now.table.now in
    all_numbers (table_answer table) table.moment c.args.answered.now.rrset.now c.signatures-rrsig-items.result.now c.signatures-rrsig-items.ensures (values_at c.args.keys.now) c.loop-place.place c.loop-place.numbers.items c.loop-place-test.false c.loop-place.invariant
