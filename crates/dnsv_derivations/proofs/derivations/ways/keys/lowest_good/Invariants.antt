use Rattle.dnsv_derivations.specs.Explained.{setting_in}
use Rattle.dnsv_derivations.specs.derivations.WaySearch.{IsNoneTo}
use Rattle.dnsv_derivations.proofs.derivations.ways.keys.lowest_good.Given as goal

abbrev pub invariant-loop-place : goal.invariant-loop-place
invariant-loop-place l = IsNoneTo (setting_in l.evidence) l.number l.rrset l.key l.place
