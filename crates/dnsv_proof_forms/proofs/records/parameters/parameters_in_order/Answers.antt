use Rattle.std.proofs.Common.{◌↔◌, map, ◌∙◌, subst}
use Rattle.std.specs.Prelude.{Contains}
use Rattle.std.proofs.lemmas.List.{take_all}
use Rattle.std.proofs.lemmas.List.Filters.{dedup_is}
use Rattle.dnsv_proof_forms.proofs.lemmas.records.OrderedLemmas.{members_in_order, put_in_order}
use Rattle.dnsv_proof_forms.proofs.records.parameters.parameters_in_order.Goals as goal

pub returns-clause-order : goal.returns-clause-order
returns-clause-order c =
    put_in_order c.loop-parameters.ordered.items c.sort_unstable.new.self.items c.dedup.new.self.items c.sort_unstable.ensures.sorted (dedup_is _ _ _ c.dedup.ensures.filtered)

pub returns-clause-members : goal.returns-clause-members
returns-clause-members c = λ each.
    let given = c.loop-parameters.invariant ∙ take_all c.loop-parameters.parameters-index c.args.all.now c.loop-parameters-test.false in
    subst (λ xs. Contains xs each ↔ Contains (map (λ each. each.parameters.now) c.dedup.new.self.items) each) given
    (members_in_order c.loop-parameters.ordered.items c.sort_unstable.new.self.items c.dedup.new.self.items c.sort_unstable.ensures.sorted (dedup_is _ _ _ c.dedup.ensures.filtered)
    c.sort_unstable.ensures.permutation each)
