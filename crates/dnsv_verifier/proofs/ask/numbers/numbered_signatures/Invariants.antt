use Rattle.std.proofs.Common.{take}
use Rattle.std.specs.List.{AllZip}
use Rattle.dnsv_verifier.specs.Asking.{GivesEach, IsAny}
use Rattle.dnsv_verifier.specs.Numbers.{IsNumberedSignature, IsPartNumber, PartLists}
use Rattle.dnsv_verifier.proofs.ask.numbers.numbered_signatures.Given as goal

-- the signatures so far
abbrev pub invariant-loop-place : goal.invariant-loop-place
invariant-loop-place l =
    (parts : PartLists) → AllZip (IsPartNumber parts) l.made l.found
    → GivesEach (IsNumberedSignature parts) IsAny (take l.place l.made) l.numbered.items
