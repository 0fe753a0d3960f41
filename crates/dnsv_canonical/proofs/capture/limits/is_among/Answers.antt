use Rattle.std.proofs.Common.{◌≡◌, true, false, ⊎_elim, sym, ◌∙◌}
use Rattle.std.proofs.lemmas.List.Elements.{Contains-append_left, Contains-append_right, Contains-append_cases}
use Rattle.dnsv_canonical.proofs.ParameterLemmas.{any_contains, contains_any}
use Rattle.dnsv_canonical.proofs.capture.limits.is_among.Goals as goal

pub returns-then-contains : goal.returns-then-contains
returns-then-contains c = (
  λ _. Contains-append_left c.args.kept.now c.args.fresh.now c.args.parameters.now (any_contains c.args.kept.now c.args.parameters.now (sym c.contains.ensures.value ∙ c.if-contains.true)),
  λ _. c.if-contains.true,
)

pub returns-else-contains : goal.returns-else-contains
returns-else-contains c = (
  λ t. Contains-append_right c.args.kept.now c.args.fresh.now c.args.parameters.now (any_contains c.args.fresh.now c.args.parameters.now (sym c.contains-else-contains.ensures.value ∙ t)),
  λ found. ⊎_elim
      (λ front. let turned : true ≡ false = sym (contains_any c.args.kept.now c.args.parameters.now front) ∙ sym c.contains.ensures.value ∙ c.if-contains.false in cc)
      (λ behind. c.contains-else-contains.ensures.value ∙ contains_any c.args.fresh.now c.args.parameters.now behind)
      (Contains-append_cases c.args.kept.now c.args.fresh.now c.args.parameters.now found),
)
