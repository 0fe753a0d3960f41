use Rattle.std.proofs.Common.{◌≡◌, ◌+◌, ℕ, List, length, sym, ap, ◌∙◌, subst, arith}
use Rattle.dnsv_gaps.specs.Asking.{asking}
use Rattle.dnsv_reasons.specs.SourceSearch.{AreDenialsAt, AreNamed, EachFrom}
use Rattle.dnsv_reasons.specs.declared.sources.NamedSources.{NamedSources}
use Rattle.dnsv_reasons.proofs.EachLemmas.{at_place, each_more, each_placed, longer}
use Rattle.dnsv_reasons.proofs.sources.named_sources.Goals as goal

pub names_at-requires-clause-zone : goal.names_at-requires-clause-zone
names_at-requires-clause-zone c =
    let i = c.loop-zone.zone-index in
    (each_placed (AreDenialsAt c.args.question.now) 0 c.args.zones.now i c.zone-item.result c.requires.zones.each
    (at_place c.args.zones.now c.zone-item.result c.zone-item.result i c.loop-zone-test.true (sym c.zone-item.is))).1

pub loop-zone-preserved : goal.loop-zone-preserved
loop-zone-preserved c =
    let i = c.loop-zone.zone-index in
    let named = c.loop-zone.named.items in
    let labels = (each_placed (AreDenialsAt c.args.question.now) 0 c.args.zones.now i c.zone-item.result c.requires.zones.each
    (at_place c.args.zones.now c.zone-item.result c.zone-item.result i c.loop-zone-test.true (sym c.zone-item.is))).0 in
    let number : length named ≡ i = c.loop-zone.invariant.0 in
    let at : c.zone-item.result.labels ≡ 0 + length named = omega (arith, number, labels) in
    let size : length named + 1 ≡ i + 1 = omega (arith, number) in (
      ap (λ (each : List NamedSources). length each) c.in_ok-push.ensures.items ∙ longer named c.in_ok-names_at.field-0 ∙ size,
      subst (λ (each : List NamedSources). EachFrom (AreNamed (asking c.args.question.now)) 0 each) (sym c.in_ok-push.ensures.items)
          (each_more (AreNamed (asking c.args.question.now)) 0 named c.in_ok-names_at.field-0 c.loop-zone.invariant.1
          (subst (λ (n : ℕ). AreNamed (asking c.args.question.now) n c.in_ok-names_at.field-0) at c.in_ok-names_at.ensures)),
    )
