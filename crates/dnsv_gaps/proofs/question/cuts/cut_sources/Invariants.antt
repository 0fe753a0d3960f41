use Rattle.std.proofs.Common.{map, take}
use Rattle.std.specs.List.{AllZip, enumerate_from}
use Rattle.dnsv_gaps.specs.Asking.{asking}
use Rattle.dnsv_gaps.specs.SourceSearch.{held_chain, zone_in}
use Rattle.dnsv_gaps.specs.questions.Cuts.{IsCutSource}
use Rattle.dnsv_gaps.proofs.question.cuts.cut_sources.Given as goal

-- what those so far say
abbrev pub invariant-loop-place : goal.invariant-loop-place
invariant-loop-place l =
    AllZip (IsCutSource (asking l.parent.question.now) (zone_in l.parent.question.now l.parent.labels) l.name)
    (enumerate_from 0 (map held_chain (take l.place l.parent.sources.now))) l.all.items
