use Rattle.std.proofs.Common.{length, ◌∙◌, arith, subst, refl, map, Some}
use Rattle.std.specs.Char.{to_ascii_lowercase}
use Rattle.dnsv_names.specs.Order.{label_cmp}
use Rattle.dnsv_names.proofs.CompareLemmas.{Apart, StepsOn, beyond_root, label_in_front, steps_on, some_rest, Apart-start, Apart-left, Apart-right, label_there, ended_together, ended_first, ended_last, ended_apart, root_alike}
use Rattle.dnsv_names.specs.Order.Ends.{Walked}
use Rattle.dnsv_names.proofs.order.compared.Goals as goal

pub walked-requires-clause-root : goal.walked-requires-clause-root
walked-requires-clause-root c = omega (arith, c.alike_at_end-alike.ensures.most 1 (root_alike c.args.a.now c.args.b.now c.requires.first c.requires.second))

pub walked-requires-2-clause-root : goal.walked-requires-2-clause-root
walked-requires-2-clause-root c = omega (arith, c.alike_at_end-alike.ensures.most 1 (root_alike c.args.a.now c.args.b.now c.requires.first c.requires.second))

pub loop-a_rest-init : goal.loop-a_rest-init
loop-a_rest-init c = record {
  left = c.walked.ensures.walked;
  right = c.walked-2.ensures.walked;
  apart = Apart-start c.alike_at_end-alike.result c.args.a.now c.args.b.now c.walked.result.1.now c.walked-2.result.1.now c.walked.result.0 c.walked-2.result.0
      c.walked.ensures c.walked-2.ensures;
  near = c.walked.ensures.near;
}

pub behind_label-a_rest-requires : goal.behind_label-a_rest-requires
behind_label-a_rest-requires c =
    omega (arith, label_in_front c.loop-a_rest.invariant.left (omega (arith, some_rest c.loop-a_rest.invariant.right, c.if-a_rest-b_rest.true)))

pub loop-a_rest-preserved-then-a_rest-b_rest : goal.loop-a_rest-preserved-then-a_rest-b_rest
loop-a_rest-preserved-then-a_rest-b_rest c =
    let on : StepsOn c.args.a.now c.loop-a_rest.a_rest.now c.behind_label-a_rest.result.now =
    steps_on c.args.a.now c.loop-a_rest.a_rest.now c.behind_label-a_rest.result.now c.loop-a_rest.a_label c.loop-a_rest.invariant.left
    (omega (arith, some_rest c.loop-a_rest.invariant.right, c.if-a_rest-b_rest.true)) c.behind_label-a_rest.ensures in
    record {
      left = on.label c.loop-a_rest.a_rest refl;
      right = c.loop-a_rest.invariant.right;
      apart = Apart-left c.alike_at_end-alike.result c.loop-a_rest.a_rest.now c.loop-a_rest.b_rest.now c.behind_label-a_rest.result.now
          c.loop-a_rest.a_label c.loop-a_rest.b_label c.loop-a_rest.a_rest c.loop-a_rest.invariant.apart refl c.if-a_rest-b_rest.true on.shorter;
      near = omega (arith, on.shorter, c.loop-a_rest.invariant.near);
    }

pub behind_label-b_rest-requires : goal.behind_label-b_rest-requires
behind_label-b_rest-requires c =
    omega (
      arith,
      label_in_front c.loop-a_rest.invariant.right
          (beyond_root (length c.loop-a_rest.a_rest.now) (length c.loop-a_rest.b_rest.now) c.loop-a_rest-test.true (some_rest c.loop-a_rest.invariant.left) c.if-a_rest-b_rest.false),
    )

pub loop-a_rest-preserved : goal.loop-a_rest-preserved
loop-a_rest-preserved c =
    let on : StepsOn c.args.b.now c.loop-a_rest.b_rest.now c.behind_label-b_rest.result.now =
    steps_on c.args.b.now c.loop-a_rest.b_rest.now c.behind_label-b_rest.result.now c.loop-a_rest.b_label c.loop-a_rest.invariant.right
    (beyond_root (length c.loop-a_rest.a_rest.now) (length c.loop-a_rest.b_rest.now) c.loop-a_rest-test.true (some_rest c.loop-a_rest.invariant.left) c.if-a_rest-b_rest.false)
    c.behind_label-b_rest.ensures in
    record {
      left = c.loop-a_rest.invariant.left;
      right = on.label c.loop-a_rest.b_rest refl;
      apart = Apart-right c.alike_at_end-alike.result c.loop-a_rest.a_rest.now c.loop-a_rest.b_rest.now c.behind_label-b_rest.result.now
          c.loop-a_rest.a_label c.loop-a_rest.b_label c.loop-a_rest.b_rest c.loop-a_rest.invariant.apart refl c.if-a_rest-b_rest.false
          (λ same. absurd (c.loop-a_rest-test.true same)) on.shorter;
      near = c.loop-a_rest.invariant.near;
    }

pub first_label-requires : goal.first_label-requires
first_label-requires c =
    label_there c.args.a.now c.loop-a_rest.a_rest.now c.in-Some-Some.a
    (subst (λ label. Walked c.args.a.now c.loop-a_rest.a_rest.now label) c.in-Some-Some.is-0 c.loop-a_rest.invariant.left)

pub first_label-requires-in-Some-Some : goal.first_label-requires-in-Some-Some
first_label-requires-in-Some-Some c =
    label_there c.args.b.now c.loop-a_rest.b_rest.now c.in-Some-Some.b
    (subst (λ label. Walked c.args.b.now c.loop-a_rest.b_rest.now label) c.in-Some-Some.is-1 c.loop-a_rest.invariant.right)

pub returns-in-Some-Some : goal.returns-in-Some-Some
returns-in-Some-Some c =
    let a_rest = c.loop-a_rest.a_rest.now in
    let b_rest = c.loop-a_rest.b_rest.now in
    let alike = c.alike_at_end-alike.result in
    let apart : Apart alike a_rest b_rest (Some c.in-Some-Some.a) (Some c.in-Some-Some.b) =
    subst (λ label. Apart alike a_rest b_rest (Some c.in-Some-Some.a) label) c.in-Some-Some.is-1
    (subst (λ label. Apart alike a_rest b_rest label c.loop-a_rest.b_label) c.in-Some-Some.is-0 c.loop-a_rest.invariant.apart) in
    c.lower_order.ensures
    ∙ (λ i. label_cmp (map to_ascii_lowercase (c.first_label.ensures i)) (map to_ascii_lowercase (c.first_label-in-Some-Some.ensures i)))
    ∙ ended_apart c.args.a.now c.args.b.now c.requires.first c.requires.second alike c.alike_at_end-alike.ensures.alike c.alike_at_end-alike.ensures.most
    a_rest b_rest c.loop-a_rest-test.false c.loop-a_rest.invariant.near c.in-Some-Some.a c.in-Some-Some.b apart
    (subst (λ label. Walked c.args.a.now a_rest label) c.in-Some-Some.is-0 c.loop-a_rest.invariant.left)
    (subst (λ label. Walked c.args.b.now b_rest label) c.in-Some-Some.is-1 c.loop-a_rest.invariant.right)

pub returns-in-Some-None : goal.returns-in-Some-None
returns-in-Some-None c =
    ended_last c.args.a.now c.args.b.now c.requires.first c.requires.second c.alike_at_end-alike.result c.alike_at_end-alike.ensures.alike c.alike_at_end-alike.ensures.most
    c.loop-a_rest.a_rest.now c.loop-a_rest.b_rest.now c.loop-a_rest-test.false c.loop-a_rest.invariant.near c.in-Some-None.field-0-0
    (subst (λ label. Walked c.args.a.now c.loop-a_rest.a_rest.now label) c.in-Some-None.is-0 c.loop-a_rest.invariant.left)
    (subst (λ label. Walked c.args.b.now c.loop-a_rest.b_rest.now label) c.in-Some-None.is-1 c.loop-a_rest.invariant.right)

pub returns-in-None-Some : goal.returns-in-None-Some
returns-in-None-Some c =
    ended_first c.args.a.now c.args.b.now c.requires.first c.requires.second c.alike_at_end-alike.result c.alike_at_end-alike.ensures.alike c.alike_at_end-alike.ensures.most
    c.loop-a_rest.a_rest.now c.loop-a_rest.b_rest.now c.loop-a_rest-test.false c.loop-a_rest.invariant.near c.in-None-Some.field-0-1
    (subst (λ label. Walked c.args.a.now c.loop-a_rest.a_rest.now label) c.in-None-Some.is-0 c.loop-a_rest.invariant.left)
    (subst (λ label. Walked c.args.b.now c.loop-a_rest.b_rest.now label) c.in-None-Some.is-1 c.loop-a_rest.invariant.right)

pub returns-in-None-None : goal.returns-in-None-None
returns-in-None-None c =
    ended_together c.args.a.now c.args.b.now c.requires.first c.requires.second c.alike_at_end-alike.result c.alike_at_end-alike.ensures.alike c.alike_at_end-alike.ensures.most
    c.loop-a_rest.a_rest.now c.loop-a_rest.b_rest.now c.loop-a_rest-test.false c.loop-a_rest.invariant.near
    (subst (λ label. Walked c.args.a.now c.loop-a_rest.a_rest.now label) c.in-None-None.is-0 c.loop-a_rest.invariant.left)
    (subst (λ label. Walked c.args.b.now c.loop-a_rest.b_rest.now label) c.in-None-None.is-1 c.loop-a_rest.invariant.right)
