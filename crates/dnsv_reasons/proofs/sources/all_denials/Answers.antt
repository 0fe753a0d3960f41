use Rattle.std.proofs.Common.{◌≡◌, ◌+◌, List, length, sym, ap, ◌∙◌, subst, arith}
use Rattle.dnsv_gaps.specs.declared.sources.ZoneDenials.{ZoneDenials}
use Rattle.dnsv_reasons.specs.SourceSearch.{AreDenialsAt, EachFrom}
use Rattle.dnsv_reasons.proofs.EachLemmas.{each_more, longer}
use Rattle.dnsv_reasons.proofs.sources.all_denials.Goals as goal

pub loop-labels-preserved : goal.loop-labels-preserved
loop-labels-preserved c =
    let zones = c.loop-labels.zones.items in
    let zone = c.in_ok-zone_denials.field-0 in
    let number : length zones ≡ c.loop-labels.labels = c.loop-labels.invariant.0 in
    let at : c.loop-labels.labels ≡ 0 + length zones = omega (arith, number) in
    let size : length zones + 1 ≡ c.loop-labels.labels + 1 = omega (arith, number) in (
      ap (λ (each : List ZoneDenials). length each) c.in_ok-push.ensures.items ∙ longer zones zone ∙ size,
      subst (λ (each : List ZoneDenials). EachFrom (AreDenialsAt c.args.question.now) 0 each) (sym c.in_ok-push.ensures.items)
          (each_more (AreDenialsAt c.args.question.now) 0 zones zone c.loop-labels.invariant.1
          (c.in_ok-zone_denials.ensures.labels ∙ at, c.in_ok-zone_denials.ensures.denials)),
    )
