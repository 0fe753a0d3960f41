use Rattle.std.proofs.Common.{List, ◌+◌, length, refl, sym, ap, ◌∙◌, subst}
use Rattle.std.proofs.lemmas.Bool.{false≢true}
use Rattle.dnsv_names.specs.Name.{Labels}
use Rattle.dnsv_chain.specs.Order.{AreStepsTo}
use Rattle.dnsv_chain.specs.declared.order.Step.{Step}
use Rattle.dnsv_chain.proofs.StepLemmas.{step_more, step_skip, sorted_steps}
use Rattle.dnsv_chain.proofs.order.steps.Goals as goal
use Rattle.dnsv_chain.proofs.order.steps.Goals.{then-is_in_chain+in_ok-push, else-is_in_chain}

pub loop-place-preserved : goal.loop-place-preserved
loop-place-preserved c =
    let rrsets = c.args.rrsets.now in
    let So_far : List Step → Type 0 = λ steps. AreStepsTo rrsets (c.loop-place.place + 1) steps in
    let test = c.is_in_chain.ensures in
    elim c.if-is_in_chain.branch [
      | then-is_in_chain+in_ok-push w ↦
          subst So_far (sym (ap (λ v. v.items) w.steps-is ∙ w.in_ok-push.ensures.items))
          (step_more rrsets c.loop-place.place c.index-rrsets-place.result c.loop-place.steps.items c.loop-place-test.true c.index-rrsets-place.is c.loop-place.invariant (record { labels = w.labels.result; rtype = w.rtype.result; place = c.loop-place.place }) (test.0 w.if-is_in_chain.true) refl (w.labels.ensures.count ∙ ap (λ (name : Labels). length name) w.owner.ensures) w.rtype.ensures)
      | else-is_in_chain w ↦
          subst So_far (sym (ap (λ v. v.items) w.steps-is))
          (step_skip rrsets c.loop-place.place c.index-rrsets-place.result c.loop-place.steps.items c.loop-place-test.true c.index-rrsets-place.is c.loop-place.invariant (λ is. false≢true (sym w.if-is_in_chain.false ∙ test.1 is)))
    ]

pub returns : goal.returns
returns c =
    sorted_steps c.args.rrsets.now c.loop-place.place c.loop-place.steps.items c.sort_unstable.new.self.items c.loop-place-test.false c.loop-place.invariant c.sort_unstable.ensures.permutation c.sort_unstable.ensures.sorted
