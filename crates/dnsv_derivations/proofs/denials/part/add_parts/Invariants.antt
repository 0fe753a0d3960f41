use Rattle.std.proofs.Common.{take}
use Rattle.dnsv_derivations.specs.Denials.{IsPartTold}
use Rattle.dnsv_derivations.specs.Saying.{Adds, AreEach}
use Rattle.dnsv_derivations.proofs.denials.part.add_parts.Given as goal

abbrev pub invariant-loop-part : goal.invariant-loop-part
invariant-loop-part l =
    Adds (AreEach (IsPartTold l.evidence.rrsets l.question) (take l.part-index l.parts)) l.initial.lines.items l.lines.items
