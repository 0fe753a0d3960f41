use Rattle.std.proofs.Common.{◌≡◌, map, take}
use Rattle.dnsv_verifier.proofs.ask.signature_parts.Given as goal

-- the parts of the signatures so far
abbrev pub invariant-loop-each : goal.invariant-loop-each
invariant-loop-each l = l.parts.items ≡ map (λ each. each.part) (take l.each-index l.made)
