use Rattle.std.proofs.Common.{◌≡◌, length}
use Rattle.dnsv_derivations.specs.Explained.{setting_in}
use Rattle.dnsv_derivations.specs.derivations.WaySearch.{AreFirstWays}
use Rattle.dnsv_derivations.proofs.derivations.ways.kept.first_ways.Given as goal

-- the ways into the RRsets so far
abbrev pub invariant-loop-place : goal.invariant-loop-place
invariant-loop-place l = (length l.ways.items ≡ l.place) × AreFirstWays (setting_in l.evidence) l.ways.items
