use Rattle.std.proofs.Common.{map}
use Rattle.dnsv_derivations.specs.Explained.{Setting}
use Rattle.dnsv_derivations.specs.derivations.WaySearch.{IsKeySet, IsNoneYet, MatchesBy, SignsAs}
use Rattle.dnsv_derivations.proofs.derivations.ways.matcher.way_with.Given as goal

abbrev pub invariant-loop-each : goal.invariant-loop-each
invariant-loop-each l = (setting : Setting) → IsKeySet setting l.set
    → IsNoneYet (map (λ each. each.key.now) l.each-items) (SignsAs setting l.set.number l.set.rrset.now (MatchesBy l.matcher)) l.each-index
