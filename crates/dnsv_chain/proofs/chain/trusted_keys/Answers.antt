use Rattle.std.proofs.Common.{◌≡◌, ◌<◌, ◌+◌, ℕ, List, Bor, length, get_or, map, sym, ap, ◌∙◌, subst, arith, ⊎_elim}
use Rattle.std.proofs.lemmas.List.{get_or_default}
use Rattle.std.proofs.lemmas.List.Elements.{Contains-get_or}
use Rattle.std.specs.List.{Contains}
use Rattle.dnsv_canonical.specs.Rrsets.{ReceivedRrset}
use Rattle.dnsv_names.specs.Name.{Labels, SameName}
use Rattle.dnsv_verifier.specs.Table.{TableContents, table_answer}
use Rattle.dnsv_anchors.specs.ByOwner.{values_at}
use Rattle.dnsv_chain.specs.ByOwner.{rrsets_at}
use Rattle.dnsv_chain.specs.Chain.{AddsDelegation, AddsTrusted}
use Rattle.dnsv_chain.specs.Order.{AreSteps, IsInChain, IsStepOf}
use Rattle.dnsv_chain.specs.declared.order.Step.{Step}
use Rattle.dnsv_anchors.proofs.ByOwnerLemmas.{values_same}
use Rattle.dnsv_chain.proofs.WalkLemmas.{walked_delegation, walked_trusted, all_walked}
use Rattle.dnsv_chain.proofs.chain.trusted_keys.Goals as goal
use Rattle.dnsv_chain.proofs.chain.trusted_keys.Goals.{in-DS+in_ok-add_delegation-in-DS, in_default+in_ok-add_trusted-in_default}

-- what a step is for
step_at : (rrsets : List ReceivedRrset) (order : List Step) (i : ℕ) (d : Step) → AreSteps rrsets order → i < length order
    → (rrset : ReceivedRrset) × IsStepOf rrsets (get_or order i d) rrset × IsInChain rrset
step_at rrsets order i d are within = are.each (get_or order i d) (Contains-get_or order i d within)

found_there : (rrsets : List ReceivedRrset) (step : Step) (rrset found : ReceivedRrset) → IsStepOf rrsets step rrset
    → ((other : ReceivedRrset) → get_or rrsets step.place other ≡ found) → rrset ≡ found
found_there rrsets step rrset found for_it is = sym for_it.at ∙ is rrset

-- the steps are those of the table's evidence
are_its : (theirs rrsets : List ReceivedRrset) (made order : List Step) → theirs ≡ rrsets → order ≡ made → AreSteps theirs made → AreSteps rrsets order
are_its theirs rrsets made order its same are =
    subst (λ (list : List Step). AreSteps rrsets list) (sym same) (subst (λ (list : List ReceivedRrset). AreSteps list made) its are)

pub at-set-requires : goal.at-set-requires
at-set-requires c =
    let order = c.deref-step-items.result.now in
    let are = are_its c.rrsets.result.now c.args.table.now.rrsets c.in_ok-order.order.items order (c.rrsets.ensures.value ∙ c.capture.ensures) c.deref-step-items.ensures.value c.in_ok-order.ensures in
    (step_at c.args.table.now.rrsets order c.loop-step.step-index (record { labels = 0; rtype = record { 0 = 0 }; place = 0 }) are c.loop-step-test.true).1.below

pub add_trusted-requires-clause-rtype : goal.add_trusted-requires-clause-rtype
add_trusted-requires-clause-rtype c =
    let rrsets = c.args.table.now.rrsets in
    let order = c.deref-step-items.result.now in
    let step : Step = get_or order c.loop-step.step-index (record { labels = 0; rtype = record { 0 = 0 }; place = 0 }) in
    let rrset = c.at-set.result.rrset.now in
    let are = are_its c.rrsets.result.now c.args.table.now.rrsets c.in_ok-order.order.items c.deref-step-items.result.now (c.rrsets.ensures.value ∙ c.capture.ensures) c.deref-step-items.ensures.value c.in_ok-order.ensures in
    let at = step_at rrsets order c.loop-step.step-index (record { labels = 0; rtype = record { 0 = 0 }; place = 0 }) are c.loop-step-test.true in
    let same : at.0 ≡ rrset = found_there rrsets step at.0 rrset at.1 c.at-set.ensures.rrset in
    let rtype : step.rtype.0 ≡ at.0.rtype = at.1.rtype in
    ⊎_elim (λ (ds : at.0.rtype ≡ 43). absurd (omega (arith, rtype, ds, c.in_default)))
    (λ (dnskey : at.0.rtype ≡ 48). sym (ap (λ (r : ReceivedRrset). r.rtype) same) ∙ dnskey) at.2

pub loop-step-preserved : goal.loop-step-preserved
loop-step-preserved c =
    let table = c.args.table.now in
    let rrsets = c.args.table.now.rrsets in
    let order : List Step = c.deref-step-items.result.now in
    let i : ℕ = c.loop-step.step-index in
    let step : Step = get_or order i (record { labels = 0; rtype = record { 0 = 0 }; place = 0 }) in
    let rrset = c.at-set.result.rrset.now in
    let are = are_its c.rrsets.result.now c.args.table.now.rrsets c.in_ok-order.order.items c.deref-step-items.result.now (c.rrsets.ensures.value ∙ c.capture.ensures) c.deref-step-items.ensures.value c.in_ok-order.ensures in
    let found = step_at rrsets order i (record { labels = 0; rtype = record { 0 = 0 }; place = 0 }) are c.loop-step-test.true in
    let same : found.0 ≡ rrset = found_there rrsets step found.0 rrset found.1 c.at-set.ensures.rrset in
    let own : c.at-set.result.table.now ≡ table = c.at-set.ensures.table in
    let for_it : IsStepOf rrsets step rrset = subst (λ (r : ReceivedRrset). IsStepOf rrsets step r) same found.1 in
    let at : step ≡ get_or order i step = get_or_default order i (record { labels = 0; rtype = record { 0 = 0 }; place = 0 }) step c.loop-step-test.true in
    let among : Contains rrsets rrset = (step.place, for_it.below, for_it.at) in
    let step_type : step.rtype.0 ≡ rrset.rtype = for_it.rtype in
    let keys_same : (a b : Labels) → SameName a b → values_at c.loop-step.keys a ≡ values_at c.loop-step.keys b = λ a b. values_same c.loop-step.keys a b in
    let delegations_same : (a b : Labels) → SameName a b → rrsets_at c.loop-step.delegations a ≡ rrsets_at c.loop-step.delegations b =
    λ a b alike. ap (λ (refs : List (Bor ReceivedRrset)). map (λ r. r.now) refs) (values_same c.loop-step.delegations a b alike) in
    elim c.match-step.branch [
      | in-DS+in_ok-add_delegation-in-DS w ↦
          rw (w.keys-is, w.delegations-is, w.known-is) (record {
            known = c.loop-step.invariant.known;
            walked =
                walked_delegation (table_answer table) table.moment rrsets c.args.anchors.now (values_at c.loop-step.keys) (rrsets_at c.loop-step.delegations) keys_same delegations_same order are i step c.loop-step-test.true at c.loop-step.invariant.walked rrset (rrsets_at w.add_delegation.new.delegations) for_it (omega (arith, step_type, w.in-DS)) among
                (subst (λ (t : TableContents). AddsDelegation (table_answer t) t.moment (values_at c.loop-step.keys) rrset (rrsets_at c.loop-step.delegations) (rrsets_at w.add_delegation.new.delegations)) own w.in_ok-add_delegation-in-DS.ensures);
          })
      | in_default+in_ok-add_trusted-in_default w ↦
          let dnskey : rrset.rtype ≡ 48 =
          ⊎_elim (λ (ds : found.0.rtype ≡ 43). let rtype : step.rtype.0 ≡ found.0.rtype = found.1.rtype in absurd (omega (arith, rtype, ds, w.in_default)))
          (λ (is : found.0.rtype ≡ 48). sym (ap (λ (r : ReceivedRrset). r.rtype) same) ∙ is) found.2 in
          rw (w.keys-is, w.delegations-is, w.known-is) (record {
            known = w.in_ok-add_trusted-in_default.ensures.known;
            walked =
                walked_trusted (table_answer table) table.moment rrsets c.args.anchors.now (values_at c.loop-step.keys) (rrsets_at c.loop-step.delegations) keys_same delegations_same order are i step c.loop-step-test.true at c.loop-step.invariant.walked rrset (values_at w.add_trusted.new.keys) for_it dnskey among
                (subst (λ (t : TableContents). AddsTrusted (table_answer t) t.moment c.args.anchors.now (rrsets_at c.loop-step.delegations) rrset (values_at c.loop-step.keys) (values_at w.add_trusted.new.keys)) own w.in_ok-add_trusted-in_default.ensures.trusted);
          })
    ]

pub returns : goal.returns
returns c =
    let table = c.args.table.now in
    let rrsets = c.args.table.now.rrsets in
    let order : List Step = c.deref-step-items.result.now in
    let are = are_its c.rrsets.result.now c.args.table.now.rrsets c.in_ok-order.order.items c.deref-step-items.result.now (c.rrsets.ensures.value ∙ c.capture.ensures) c.deref-step-items.ensures.value c.in_ok-order.ensures in
    let keys_same : (a b : Labels) → SameName a b → values_at c.loop-step.keys a ≡ values_at c.loop-step.keys b = λ a b. values_same c.loop-step.keys a b in
    let delegations_same : (a b : Labels) → SameName a b → rrsets_at c.loop-step.delegations a ≡ rrsets_at c.loop-step.delegations b =
    λ a b alike. ap (λ (refs : List (Bor ReceivedRrset)). map (λ r. r.now) refs) (values_same c.loop-step.delegations a b alike) in
    all_walked (table_answer table) table.moment rrsets c.args.anchors.now (values_at c.loop-step.keys) (rrsets_at c.loop-step.delegations) keys_same delegations_same order are c.loop-step.step-index c.loop-step-test.false c.loop-step.invariant.walked
