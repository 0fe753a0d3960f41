use Rattle.dnsv_derivations.specs.Explained.{setting_in}
use Rattle.dnsv_derivations.specs.derivations.WaySearch.{IsNoWayBefore, number_or_end}
use Rattle.dnsv_derivations.proofs.derivations.ways.by_ds.way_by_ds.Given as goal

-- no way goes before the RRset that is next
abbrev pub invariant-loop-number : goal.invariant-loop-number
invariant-loop-number l =
    IsNoWayBefore (setting_in l.evidence) l.set.number (number_or_end l.evidence.rrsets l.number-items l.number-index) 0
