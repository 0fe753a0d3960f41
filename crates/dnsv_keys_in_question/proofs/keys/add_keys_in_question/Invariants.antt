use Rattle.std.proofs.Common.{take}
use Rattle.dnsv_derivations.specs.Explained.{setting_in}
use Rattle.dnsv_keys_in_question.specs.KeyLines.{AreLinesOfSet}
use Rattle.dnsv_derivations.specs.Listing.{AddsThose, AreOfNumbered}
use Rattle.dnsv_keys_in_question.proofs.keys.add_keys_in_question.Given as goal

-- the lines of the RRsets so far
abbrev pub invariant-loop-place : goal.invariant-loop-place
invariant-loop-place l =
    AddsThose (AreOfNumbered (AreLinesOfSet (setting_in l.evidence) l.reasons) 1 (take l.place l.evidence.rrsets))
    l.initial.lines.items l.lines.items
