use Rattle.dnsv_canonical.proofs.OrderLemmas.{each_of}
use Rattle.std.proofs.Common.{sym}
use Rattle.dnsv_gaps.specs.SourceSearch.{IsHeldIn}
use Rattle.dnsv_gaps.proofs.SpeakerLemmas.{source_next, sources_told}
use Rattle.dnsv_gaps.proofs.speakers.facts_of_each.Goals as goal

pub source_case-requires : goal.source_case-requires
source_case-requires c =
    c.source-source.ensures.its c.args.question.now c.requires.within
    (each_of (IsHeldIn c.args.question.now c.args.labels) c.args.sources.now c.index-sources-place.result c.requires.each
    (c.loop-place.place, c.loop-place-test.true, sym c.index-sources-place.is))

pub loop-place-preserved : goal.loop-place-preserved
loop-place-preserved c =
    source_next c.args.question.now c.args.labels c.args.sources.now c.loop-place.place c.index-sources-place.result c.source-source.result
    c.in_ok-case.case c.loop-place.facts.items _ c.loop-place-test.true c.index-sources-place.is c.source-source.ensures.labels
    c.source-source.ensures.chain c.in_ok-case.ensures c.in_ok-push.ensures.items c.loop-place.invariant

pub returns : goal.returns
returns c =
    sources_told c.args.question.now c.args.labels c.args.sources.now c.loop-place.place c.loop-place.facts.items c.loop-place-test.false
    c.loop-place.invariant
