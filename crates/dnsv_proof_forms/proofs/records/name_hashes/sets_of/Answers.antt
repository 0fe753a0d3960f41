use Rattle.std.proofs.Common.{◌↔◌, map, refl, sym, ap, ◌∙◌, subst}
use Rattle.std.specs.Prelude.{Contains}
use Rattle.std.specs.List.Sorted.{IsStrictlySortedBy}
use Rattle.dnsv_zones.specs.chains.Rdata.{parameters_of}
use Rattle.dnsv_proof_forms.specs.records.ParametersOrder.{parameters_cmp}
use Rattle.dnsv_proof_forms.proofs.lemmas.records.OrderedLemmas.{all_sets, no_sets, set_more}
use Rattle.dnsv_proof_forms.proofs.lemmas.records.HashCountLemmas.{none_counted, one_counted}
use Rattle.dnsv_proof_forms.proofs.records.name_hashes.sets_of.Goals as goal

pub loop-each-init : goal.loop-each-init
loop-each-init c = rw c.new-sets.ensures.items (no_sets c.args.name.now c.deref-each-items.result.now, none_counted c.args.name.now _ c.value.ensures.at_most)

pub loop-each-preserved : goal.loop-each-preserved
loop-each-preserved c = rw c.in_ok-push.ensures.items (
  set_more c.args.name.now c.deref-each-items.result.now c.loop-each.each-index c.loop-each.sets.items _ c.each-item.result
      c.loop-each-test.true c.each-item.is refl c.in_ok-hashed.ensures.hashes c.loop-each.invariant.0,
  one_counted c.args.name.now c.loop-each.sets.items _ _ _ _ c.loop-each.invariant.1 c.in_ok-hashed.ensures.count,
)

pub returns-clause-hashed : goal.returns-clause-hashed
returns-clause-hashed c = c.loop-each.invariant.0.hashed

pub returns-clause-order : goal.returns-clause-order
returns-clause-order c =
    let all = all_sets c.args.name.now c.deref-each-items.result.now c.loop-each.each-index c.loop-each.sets.items c.loop-each-test.false c.loop-each.invariant.0
    ∙ ap (map (λ each. each.parameters.now)) c.deref-each-items.ensures.value in
    subst (λ xs. IsStrictlySortedBy parameters_cmp (map parameters_of xs)) (sym all) c.in_ok-ordered.ensures.order

pub returns-clause-members : goal.returns-clause-members
returns-clause-members c = λ each.
    let all = all_sets c.args.name.now c.deref-each-items.result.now c.loop-each.each-index c.loop-each.sets.items c.loop-each-test.false c.loop-each.invariant.0
    ∙ ap (map (λ each. each.parameters.now)) c.deref-each-items.ensures.value in
    subst (λ xs. Contains c.args.all.now each ↔ Contains xs each) (sym all) (c.in_ok-ordered.ensures.members each)

pub returns-clause-count : goal.returns-clause-count
returns-clause-count c = c.loop-each.invariant.1
