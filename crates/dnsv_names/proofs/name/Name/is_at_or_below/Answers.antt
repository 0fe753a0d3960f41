use Rattle.std.proofs.Common.{◌≡◌, ◌-◌, length, drop, ap, ◌∙◌, arith, false}
use Rattle.std.proofs.lemmas.List.{take_rest}
use Rattle.std.specs.Bool.{one_answer}
use Rattle.dnsv_names.specs.Name.{wire}
use Rattle.dnsv_names.specs.Name.Spelling.{labels_of}
use Rattle.dnsv_names.specs.Tree.TreeLaws.{at_or_below_length, is_at_or_below_Decides}
use Rattle.dnsv_names.specs.Name.WireLaws.{labels_of-wire}
use Rattle.dnsv_names.proofs.NameLemmas.{SpellsName-wire}
use Rattle.dnsv_names.proofs.TreeLemmas.{at_or_below_Decides}
use Rattle.dnsv_names.proofs.name.Name.is_at_or_below.Goals as goal

pub label_place-place-requires-clause-name : goal.label_place-place-requires-clause-name
label_place-place-requires-clause-name c = SpellsName-wire _ _ c.wire-octets.ensures.name c.wire-octets.ensures.octets

pub label_place-place-requires-clause-within : goal.label_place-place-requires-clause-within
label_place-place-requires-clause-within c =
    omega (arith, ap (λ octets. length (labels_of octets)) c.wire-octets.ensures.octets, ap length (labels_of-wire _ c.wire-octets.ensures.name.each))

pub returns-clause-at_or_below : goal.returns-clause-at_or_below
returns-clause-at_or_below c =
    let same : labels_of c.wire-octets.result.now ≡ c.args.self.now = ap labels_of c.wire-octets.ensures.octets ∙ labels_of-wire _ c.wire-octets.ensures.name.each in
    let k = c.labels-count.result - c.labels-kept.result in
    at_or_below_Decides c.args.self.now c.args.above.now k (drop c.label_place-place.result c.wire-octets.result.now) c.eq_ignore_ascii_case.result
    c.wire-octets.ensures.name c.wire.ensures.name (omega arith) (omega arith)
    (c.label_place-place.ensures.rest ∙ ap (λ labels. wire (drop k labels)) same)
    (rw (← c.wire.ensures.octets) (rw take_rest at c.eq_ignore_ascii_case.ensures.test))

pub returns-clause-test : goal.returns-clause-test
returns-clause-test c = one_answer _ _ (returns-clause-at_or_below c) (is_at_or_below_Decides c.args.self.now c.args.above.now)

pub returns-then-kept-count-clause-test : goal.returns-then-kept-count-clause-test
returns-then-kept-count-clause-test c =
    one_answer false _
    (λ yes. absurd (cc), λ below. absurd (omega (arith, at_or_below_length c.args.self.now c.args.above.now below)))
    (is_at_or_below_Decides c.args.self.now c.args.above.now)
