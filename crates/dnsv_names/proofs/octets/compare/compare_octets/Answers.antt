use Rattle.std.proofs.Common.{◌∙◌, ◌*◌, ◌/◌, ◌≡◌, sym, ap, arith, drop}
use Rattle.std.proofs.lemmas.List.{take_rest}
use Rattle.std.specs.Ordering.{nat_cmp}
use Rattle.dnsv_names.specs.Octets.{octets_cmp}
use Rattle.dnsv_names.proofs.LowerLemmas.{tied_by_test, untied_by_test}
use Rattle.dnsv_names.proofs.WordLemmas.{tied_word, untied_word}
use Rattle.dnsv_names.proofs.octets.compare.compare_octets.Goals as goal

pub returns-then-ne : goal.returns-then-ne
returns-then-ne c =
    untied_word c.args.a.now c.args.b.now (λ i. omega (arith, c.type_inv.a i)) (λ i. omega (arith, c.type_inv.b i)) c.loop-word.word (omega arith) (omega arith) c.loop-word.invariant c.cmp-order.result
    (c.cmp-order.ensures ∙ (λ i. nat_cmp (c.u64_at.ensures i) (c.u64_at-in-loop-word.ensures i)))
    (untied_by_test c.cmp-order.result c.ne.result c.ne.ensures c.if-ne.true)

pub loop-word-preserved : goal.loop-word-preserved
loop-word-preserved c =
    tied_word c.args.a.now c.args.b.now (λ i. omega (arith, c.type_inv.a i)) (λ i. omega (arith, c.type_inv.b i)) c.loop-word.word (omega arith) (omega arith) c.loop-word.invariant c.cmp-order.result
    (c.cmp-order.ensures ∙ (λ i. nat_cmp (c.u64_at.ensures i) (c.u64_at-in-loop-word.ensures i)))
    (tied_by_test c.cmp-order.result c.ne.result c.ne.ensures c.if-ne.false)

pub returns : goal.returns
returns c =
    let place = 8 * (c.min-words.result / 8) in
    let all : c.loop-word.word ≡ c.min-words.result / 8 = omega (arith, c.loop-word-test.false, c.loop-word.auto.word-end) in
    c.cmp.ensures ∙ (λ i. octets_cmp (take_rest c.args.a.now place i) (take_rest c.args.b.now place i))
    ∙ sym (c.loop-word.invariant ∙ ap (λ n. octets_cmp (drop (8 * n) c.args.a.now) (drop (8 * n) c.args.b.now)) all)
