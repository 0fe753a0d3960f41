use Rattle.std.proofs.Common.{List, ℕ, arith, map, ◌-◌, subst, sym, ◌+◌, refl}
use Rattle.std.specs.List.{AllZip, range_with_len}
use Rattle.dnsv_remedies.specs.declared.facts.cut.CutFacts.{CutFacts}
use Rattle.dnsv_gaps.specs.Asking.{asking}
use Rattle.dnsv_gaps.specs.SourceSearch.{held_chain}
use Rattle.dnsv_gaps.specs.questions.Cuts.{AreCutFacts}
use Rattle.dnsv_gaps.proofs.QuestionLemmas.CutLemmas.{AreCutsTo, all_cuts, no_cut_yet, one_cut_more, shown_by_first}
use Rattle.dnsv_gaps.proofs.question.cuts.cuts.Goals as goal

pub loop-name-init : goal.loop-name-init
loop-name-init c =
    let parent = c.args.parent.now in
    no_cut_yet (asking parent.question.now) parent.labels parent.next (map held_chain parent.sources.now) c.lowest_cut-lowest.result
    c.new-cuts.result.items c.new-cuts.ensures.items

pub cut_sources-requires-clause-within : goal.cut_sources-requires-clause-within
cut_sources-requires-clause-within c =
    let less = c.loop-name-test.true in let within = c.lowest_cut-lowest.ensures.within in omega (arith, less, within)

pub loop-name-preserved : goal.loop-name-preserved
loop-name-preserved c =
    let parent = c.args.parent.now in
    let a = asking parent.question.now in
    let chains = map held_chain parent.sources.now in
    let lowest = c.lowest_cut-lowest.result in
    let less = c.loop-name-test.true in
    let is = c.lowest_cut-lowest.ensures.value in
    let made : CutFacts = record { name = c.loop-name.name; is_shown = c.is_that.result; sources = c.in_ok-cut_sources.field-0 } in
    subst (λ (cuts : List CutFacts). AreCutsTo a parent.labels parent.next chains lowest (c.loop-name.name + 1) cuts) (sym c.in_ok-push.ensures.items)
    (one_cut_more a parent.labels parent.next chains lowest c.loop-name.name c.loop-name.cuts.items made less c.loop-name.invariant
    (record {
      name = refl;
      is_shown = shown_by_first a parent.labels parent.next c.in_ok-shown.shown c.loop-name.name c.is_that.result c.loop-name.invariant.below
          (omega (arith, less, is)) c.in_ok-shown.ensures c.is_that.ensures;
      sources = c.in_ok-cut_sources.ensures;
    }))

pub returns : goal.returns
returns c =
    let parent = c.args.parent.now in
    let a = asking parent.question.now in
    subst (λ (n : ℕ). AllZip (AreCutFacts a parent.labels parent.next (map held_chain parent.sources.now))
    (range_with_len (parent.labels + 1) (n - parent.labels)) c.loop-name.cuts.items) c.lowest_cut-lowest.ensures.value
    (all_cuts a parent.labels parent.next (map held_chain parent.sources.now) c.lowest_cut-lowest.result c.loop-name.name c.loop-name.cuts.items
    c.loop-name-test.false c.loop-name.invariant)
