use Rattle.std.proofs.Common.{take}
use Rattle.dnsv_verifier.specs.Asking.{CanSign, GivesEach}
use Rattle.dnsv_verifier.specs.Numbers.{IsNumberedKey}
use Rattle.dnsv_verifier.proofs.ask.numbers.numbered_keys.Given as goal

-- those of the keys so far
abbrev pub invariant-loop-key : goal.invariant-loop-key
invariant-loop-key l = GivesEach (IsNumberedKey l.parts) CanSign (take l.key-index l.keys) l.numbered.items
