-- at least so many, and no more than a name has
use Rattle.std.proofs.Common.{◌-◌, ◌≤◌, length}
use Rattle.dnsv_proof_forms.proofs.forms.end_limits.shown_with.Given as goal

abbrev pub invariant-loop-most : goal.invariant-loop-most
invariant-loop-most l = (l.shown ≤ l.most) × (l.shown ≤ 127 → l.most ≤ 127)

abbrev pub decreases-loop-most : goal.decreases-loop-most
decreases-loop-most l = length l.name - l.most
