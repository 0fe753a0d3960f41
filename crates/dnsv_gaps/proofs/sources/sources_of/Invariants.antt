use Rattle.std.proofs.Common.{map, take}
use Rattle.dnsv_gaps.specs.SourceSearch.{AreZoneDenials}
use Rattle.dnsv_gaps.proofs.ZoneLemmas.{AreSourcesTo, ordered_of}
use Rattle.dnsv_gaps.proofs.sources.sources_of.Given as goal

-- that of NSEC, and those with the parameters so far
abbrev pub invariant-loop-each : goal.invariant-loop-each
invariant-loop-each l =
    (are : AreZoneDenials l.question l.zone) → AreSourcesTo l.question l.zone are (map ordered_of (take l.each-index l.each-items)) l.sources.items
