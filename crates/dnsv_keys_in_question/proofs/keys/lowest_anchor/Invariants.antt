use Rattle.std.proofs.Common.{◌≤◌, ℕ}
use Rattle.dnsv_derivations.specs.Explained.{setting_in}
use Rattle.dnsv_keys_in_question.specs.KeyLines.{IsMatchedByAnchor}
use Rattle.dnsv_keys_in_question.proofs.keys.lowest_anchor.Given as goal

-- none of the anchors so far matches
abbrev pub invariant-loop-place : goal.invariant-loop-place
invariant-loop-place l = (n : ℕ) → n ≤ l.place → ¬ IsMatchedByAnchor (setting_in l.evidence) l.key n
