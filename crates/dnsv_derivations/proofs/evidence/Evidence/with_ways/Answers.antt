use Rattle.std.proofs.Common.{subst, sym}
use Rattle.dnsv_derivations.specs.Explained.{Explained, setting_in}
use Rattle.dnsv_derivations.specs.derivations.WaySearch.{AreFirstWays}
use Rattle.dnsv_derivations.proofs.evidence.Evidence.with_ways.Goals as goal

pub invariant_of-result : goal.invariant_of-result
invariant_of-result c =
    let Are : Explained → Type 0 = λ all. AreFirstWays (setting_in all) c.args.ways.now in record {
      trust = c.self.invariant.trust;
      ways = subst Are (sym c.self.view_is) c.requires;
      rising = c.self.invariant.rising;
    }
