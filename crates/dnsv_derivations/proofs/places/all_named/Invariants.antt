use Rattle.std.proofs.Common.{take, []}
use Rattle.dnsv_verifier.specs.Asking.{AddsJust, ComesOfSome}
use Rattle.dnsv_derivations.proofs.lemmas.PlaceLemmas.{Names}
use Rattle.dnsv_derivations.proofs.places.all_named.Given as goal

abbrev pub invariant-loop-line : goal.invariant-loop-line
invariant-loop-line l = AddsJust (ComesOfSome Names (take l.line-index l.lines)) [] l.numbers.items
