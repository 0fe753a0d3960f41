-- none of the records so far shows more
use Rattle.std.proofs.Common.{◌≤◌, length}
use Rattle.dnsv_proof_forms.specs.forms.EndLimits.{HoldsOfFirst, ShowsNoMore}
use Rattle.dnsv_proof_forms.proofs.forms.end_limits.most_shown.Given as goal

abbrev pub invariant-loop-entry : goal.invariant-loop-entry
invariant-loop-entry l =
    HoldsOfFirst (ShowsNoMore l.name l.shown) l.entries l.entry-index × (length l.apex ≤ l.shown) × (l.shown ≤ 127)
