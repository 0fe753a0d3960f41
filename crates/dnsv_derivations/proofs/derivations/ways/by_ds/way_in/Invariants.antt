use Rattle.std.proofs.Common.{◌+◌}
use Rattle.dnsv_derivations.specs.Explained.{setting_in}
use Rattle.dnsv_derivations.specs.derivations.WaySearch.{IsNoWayBefore}
use Rattle.dnsv_derivations.proofs.derivations.ways.by_ds.way_in.Given as goal

abbrev pub invariant-loop-place : goal.invariant-loop-place
invariant-loop-place l = IsNoWayBefore (setting_in l.evidence) l.set.number l.from (l.place + 1)
