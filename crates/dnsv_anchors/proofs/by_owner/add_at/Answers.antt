use Rattle.std.proofs.Common.{◌≡◌, None, Some, sym, ap, ◌∙◌, subst}
use Rattle.std.specs.BTreeMap.{Updates}
use Rattle.dnsv_names.specs.Name.{Labels}
use Rattle.dnsv_anchors.specs.ByOwner.{values_at}
use Rattle.dnsv_anchors.proofs.ByOwnerLemmas.{key_cmp, values_of, values_found, values_added}
use Rattle.dnsv_anchors.proofs.by_owner.add_at.Goals as goal
use Rattle.dnsv_anchors.proofs.by_owner.add_at.Goals.{in-Some, in-None}

pub returns : goal.returns
returns g c =
    let old = c.args.by_owner.now in
    let found = ap values_of c.remove.ensures.value ∙ values_found old (record { 0 = c.copied.result }) in
    values_added old c.remove.new.self c.insert.new.self (record { 0 = c.args.owner.now }) c.match-remove.values c.push.new.self c.args.value
    (subst (λ (name : Labels). c.match-remove.values.items ≡ values_at old name) c.copied.ensures
    (elim c.match-remove.branch [
      | in-Some w ↦ ap (λ v. v.items) w.values-is ∙ ap values_of (sym w.in-Some.is) ∙ found
      | in-None w ↦ ap (λ v. v.items) w.values-is ∙ w.new-values.ensures.items ∙ ap values_of (sym w.in-None.is) ∙ found
    ]))
    (subst (λ (name : Labels). Updates key_cmp old c.remove.new.self (record { 0 = name }) None) c.copied.ensures c.remove.ensures.updates)
    c.in_ok-push.ensures.items
    (subst (λ (name : Labels). Updates key_cmp c.remove.new.self c.insert.new.self (record { 0 = name }) (Some c.push.new.self)) c.copied-2.ensures c.in_ok-insert.ensures.updates)
