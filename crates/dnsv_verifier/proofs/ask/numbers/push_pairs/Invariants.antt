use Rattle.std.proofs.Common.{take}
use Rattle.dnsv_verifier.specs.Asking.{AddsJust, ComesOfSome}
use Rattle.dnsv_verifier.specs.Numbers.{IsPairOf}
use Rattle.dnsv_verifier.proofs.ask.numbers.push_pairs.Given as goal

-- the pairs with the signatures so far
abbrev pub invariant-loop-each : goal.invariant-loop-each
invariant-loop-each l =
    AddsJust (ComesOfSome (IsPairOf l.key) (take l.each-index l.signatures)) l.initial.numbers.items l.numbers.items
