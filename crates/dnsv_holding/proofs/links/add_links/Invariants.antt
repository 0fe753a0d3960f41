use Rattle.std.proofs.Common.{take}
use Rattle.dnsv_derivations.specs.Explained.{setting_in}
use Rattle.dnsv_holding.specs.Holding.{IsLinkTold}
use Rattle.dnsv_derivations.specs.Saying.{Adds, AreEach}
use Rattle.dnsv_holding.proofs.links.add_links.Given as goal

-- what holds for each link so far
abbrev pub invariant-loop-place : goal.invariant-loop-place
invariant-loop-place l =
    Adds (AreEach (IsLinkTold (setting_in l.evidence)) (take l.place l.links)) l.initial.lines.items l.lines.items
