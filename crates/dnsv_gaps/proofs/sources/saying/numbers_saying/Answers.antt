use Rattle.std.proofs.Common.{◌<◌, ℕ, ap, map, subst, sym, ◌∙◌}
use Rattle.std.specs.List.{AllByRecursion}
use Rattle.dnsv_canonical.proofs.OrderLemmas.{each_member}
use Rattle.dnsv_proof_forms.specs.records.Numbers.{number_at, numbers_of, record_count}
use Rattle.dnsv_gaps.proofs.SayingLemmas.{all_in_evidence, saying, zone}
use Rattle.dnsv_gaps.proofs.sources.saying.numbers_saying.Goals as goal

pub numbers_at-requires : goal.numbers_at-requires
numbers_at-requires c =
    let Within : ℕ → Type 0 = λ place. place < record_count c.args.source.now.records in
    subst (AllByRecursion Within) (sym c.deref.ensures.value)
    (each_member Within c.in_ok-places.places.items c.in_ok-places.ensures.within)

pub returns-clause-all : goal.returns-clause-all
returns-clause-all c =
    let question = c.args.question.now in
    let source = c.args.source.now in
    saying question source c.requires.source c.args.asked c.args.word c.in_ok-places.places.items
    (c.in_ok-places.ensures.all (zone question source c.requires.source)) c.in_ok-numbers_at.field-0.items
    (c.in_ok-numbers_at.ensures ∙ ap (map (number_at (numbers_of source.records))) c.deref.ensures.value)

pub returns-clause-there : goal.returns-clause-there
returns-clause-there c =
    let question = c.args.question.now in
    let source = c.args.source.now in
    all_in_evidence question source c.requires.source c.args.asked c.args.word c.in_ok-places.places.items c.in_ok-places.ensures.within
    c.in_ok-numbers_at.field-0.items
    (c.in_ok-numbers_at.ensures ∙ ap (map (number_at (numbers_of source.records))) c.deref.ensures.value)
