use Rattle.std.proofs.Common.{take}
use Rattle.dnsv_verifier.specs.Asking.{AddsJust, ComesOfSome, IsMadeOf, KeepsNumbers}
use Rattle.dnsv_verifier.proofs.ask.made.add_rrset.Given as goal

-- those of the signatures so far
abbrev pub invariant-loop-place : goal.invariant-loop-place
invariant-loop-place l = record {
  adds : AddsJust (ComesOfSome (IsMadeOf l.sought.range.from l.sought.range.to l.sought.keys.now l.rrset) (take l.place l.rrsig-items)) l.initial.made.signatures.items l.made.signatures.items;
  numbers : KeepsNumbers l.number l.rrset l.initial.made.numbers.items l.initial.made.signatures.items l.made.numbers.items l.made.signatures.items;
}
