use Rattle.std.proofs.Common.{◌≤◌, ℕ}
use Rattle.dnsv_derivations.specs.Explained.{setting_in}
use Rattle.dnsv_keys_in_question.specs.KeyLines.{IsMatchedByDs}
use Rattle.dnsv_derivations.specs.derivations.Ways.{record_at}
use Rattle.dnsv_keys_in_question.proofs.keys.lowest_in.Given as goal

-- none of the records so far matches
abbrev pub invariant-loop-place : goal.invariant-loop-place
invariant-loop-place l = (n : ℕ) → n ≤ l.place → ¬ IsMatchedByDs (setting_in l.evidence) l.key (record_at l.number n)
