-- no more than so many
use Rattle.std.proofs.Common.{◌≤◌}
use Rattle.dnsv_proof_forms.proofs.forms.end_limits.absent_with.Given as goal

abbrev pub invariant-loop-fewest : goal.invariant-loop-fewest
invariant-loop-fewest l = l.fewest ≤ l.absent

abbrev pub decreases-loop-fewest : goal.decreases-loop-fewest
decreases-loop-fewest l = l.fewest
