use Rattle.std.proofs.Common.{◌≤◌}
use Rattle.dnsv_derivations.specs.Explained.{setting_in}
use Rattle.dnsv_keys_in_question.specs.KeyLines.{IsMatchedByDs}
use Rattle.dnsv_canonical.specs.declared.number.RecordNumber.{RecordNumber}
use Rattle.dnsv_keys_in_question.proofs.keys.lowest_ds.Given as goal

-- none of the records of the RRsets so far matches
abbrev pub invariant-loop-before : goal.invariant-loop-before
invariant-loop-before l =
    (number : RecordNumber) → number.rrset ≤ l.before → ¬ IsMatchedByDs (setting_in l.evidence) l.key number
