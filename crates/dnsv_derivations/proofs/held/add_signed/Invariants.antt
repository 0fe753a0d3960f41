use Rattle.std.proofs.Common.{take}
use Rattle.dnsv_derivations.specs.Explained.{setting_in}
use Rattle.dnsv_derivations.specs.Saying.{Adds, AreEach}
use Rattle.dnsv_derivations.specs.derivations.HeldTo.{IsLowestDerived}
use Rattle.dnsv_derivations.proofs.held.add_signed.Given as goal

-- each so far
abbrev pub invariant-loop-number : goal.invariant-loop-number
invariant-loop-number l =
    Adds (AreEach (IsLowestDerived (setting_in l.evidence)) (take l.number-index l.numbers)) l.initial.lines.items l.lines.items
