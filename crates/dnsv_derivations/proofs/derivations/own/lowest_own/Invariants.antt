use Rattle.dnsv_derivations.specs.derivations.OwnSearch.{IsNoneOwn}
use Rattle.dnsv_derivations.proofs.derivations.own.lowest_own.Given as goal

abbrev pub invariant-loop-signature : goal.invariant-loop-signature
invariant-loop-signature l = IsNoneOwn l.found l.zone l.signature-items l.signature-index
