use Rattle.std.proofs.Common.{take}
use Rattle.dnsv_derivations.specs.Explained.{setting_in}
use Rattle.dnsv_keys_in_question.specs.KeyLines.{IsKeyLine}
use Rattle.dnsv_derivations.specs.Listing.{AddsThose, AreOfNumbered}
use Rattle.dnsv_keys_in_question.proofs.keys.add_keys.Given as goal

-- the lines of the keys so far
abbrev pub invariant-loop-place : goal.invariant-loop-place
invariant-loop-place l =
    AddsThose (AreOfNumbered (IsKeyLine (setting_in l.evidence) l.number l.set) 1 (take l.place l.keys))
    l.initial.lines.items l.lines.items
