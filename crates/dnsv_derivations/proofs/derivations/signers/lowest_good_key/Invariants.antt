use Rattle.std.proofs.Common.{map}
use Rattle.dnsv_verifier.specs.Admissible.{IsGood}
use Rattle.dnsv_derivations.specs.Explained.{setting_in}
use Rattle.dnsv_derivations.specs.derivations.WaySearch.{IsNoneYet, key_of}
use Rattle.dnsv_derivations.proofs.derivations.signers.lowest_good_key.Given as goal

abbrev pub invariant-loop-each : goal.invariant-loop-each
invariant-loop-each l =
    IsNoneYet (map (λ each. key_of l.set.owner each.rdata.now each.record.now) l.each-items)
    (IsGood (setting_in l.evidence).meaning (setting_in l.evidence).moment l.rrset l.rrsig) l.each-index
