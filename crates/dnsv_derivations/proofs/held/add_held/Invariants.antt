use Rattle.dnsv_derivations.specs.Explained.{setting_in}
use Rattle.dnsv_derivations.specs.Saying.{Adds}
use Rattle.dnsv_derivations.specs.derivations.HeldTo.{IsHeldBelow}
use Rattle.dnsv_derivations.proofs.held.add_held.Given as goal

-- what holds at each ancestor so far
abbrev pub invariant-loop-count : goal.invariant-loop-count
invariant-loop-count l =
    Adds (IsHeldBelow (setting_in l.evidence) l.name l.count) l.initial.lines.items l.lines.items
