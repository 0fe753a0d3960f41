-- what is left has what is there for the zone
use Rattle.std.proofs.Common.{◌≡◌}
use Rattle.dnsv_anchors.specs.ByOwner.{values_at}
use Rattle.dnsv_denial.proofs.lemmas.gathering.ByZoneLemmas.{numbers_in}
use Rattle.dnsv_denial.proofs.gathering.signers.numbers_of.Given as goal

abbrev pub invariant-loop-entry : goal.invariant-loop-entry
invariant-loop-entry l = values_at l.numbers l.zone ≡ numbers_in l.zone l.entry-iterator
