use Rattle.std.proofs.Common.{List, map, subst, sym, take, ◌+◌, [], refl}
use Rattle.std.proofs.lemmas.List.{take_all}
use Rattle.std.specs.List.{AllZip, enumerate_from}
use Rattle.dnsv_remedies.specs.declared.facts.cut.CutSource.{CutSource}
use Rattle.dnsv_gaps.specs.Asking.{asking}
use Rattle.dnsv_gaps.specs.SourceSearch.{held_chain, zone_in}
use Rattle.dnsv_gaps.specs.questions.Cuts.{IsCutSource}
use Rattle.dnsv_gaps.specs.declared.sources.HeldSource.{HeldSource}
use Rattle.dnsv_gaps.proofs.QuestionLemmas.CutLemmas.{case_as, one_source_more}
use Rattle.dnsv_gaps.proofs.question.cuts.cut_sources.Goals as goal

pub loop-place-init : goal.loop-place-init
loop-place-init c =
    let parent = c.args.parent.now in
    subst (λ (all : List CutSource). AllZip (IsCutSource (asking parent.question.now) (zone_in parent.question.now parent.labels) c.args.name) [] all)
    (sym c.in_ok-all.ensures.items) tt

pub loop-place-preserved : goal.loop-place-preserved
loop-place-preserved c =
    let parent = c.args.parent.now in
    let question = parent.question.now in
    let R = IsCutSource (asking question) (zone_in question parent.labels) c.args.name in
    let held = c.held-item.result in
    let made : CutSource = record { place = c.loop-place.place; case = c.in_ok-case.case } in
    subst (λ (all : List CutSource). AllZip R (enumerate_from 0 (map held_chain (take (c.loop-place.place + 1) parent.sources.now))) all)
    (sym c.in_ok-push.ensures.items)
    (one_source_more R held_chain parent.sources.now c.loop-place.place held c.loop-place.all.items made c.loop-place-test.true c.held-item.is
    c.loop-place.invariant
    (record {
      place = refl;
      its_case = case_as question parent.labels c.source-source.result held c.args.name c.in_ok-case.case c.source-source.ensures.labels
          c.source-source.ensures.chain c.in_ok-case.ensures;
    }))

pub returns : goal.returns
returns c =
    let parent = c.args.parent.now in
    let R = IsCutSource (asking parent.question.now) (zone_in parent.question.now parent.labels) c.args.name in
    subst (λ (sources : List HeldSource). AllZip R (enumerate_from 0 (map held_chain sources)) c.loop-place.all.items)
    (take_all c.loop-place.place parent.sources.now c.loop-place-test.false) c.loop-place.invariant
