use Rattle.std.proofs.Common.{[], take}
use Rattle.dnsv_verifier.specs.Asking.{AddsJust, ComesOfSome}
use Rattle.dnsv_verifier.specs.Numbers.{IsPairIn}
use Rattle.dnsv_verifier.proofs.ask.numbers.pairs.Given as goal

-- the pairs of the keys so far
abbrev pub invariant-loop-key : goal.invariant-loop-key
invariant-loop-key l = AddsJust (ComesOfSome (IsPairIn l.signatures) (take l.key-index l.keys)) [] l.numbers.items
