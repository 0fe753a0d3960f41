-- none of the records so far denies fewer
use Rattle.std.proofs.Common.{◌+◌, ◌≤◌, length}
use Rattle.dnsv_proof_forms.specs.forms.EndLimits.{DeniesNoFewer, HoldsOfFirst}
use Rattle.dnsv_proof_forms.proofs.forms.end_limits.fewest_absent.Given as goal

abbrev pub invariant-loop-entry : goal.invariant-loop-entry
invariant-loop-entry l =
    HoldsOfFirst (DeniesNoFewer l.name l.absent) l.entries l.entry-index × (l.absent ≤ length l.name + 1)
