use Rattle.std.proofs.Common.{subst}
use Rattle.dnsv_derivations.specs.Explained.{Explained, setting_in}
use Rattle.dnsv_derivations.specs.derivations.WaySearch.{IsWayOf}
use Rattle.dnsv_derivations.proofs.evidence.Evidence.kept_way.Goals as goal

pub returns : goal.returns
returns c =
    let Of : Explained → Type 0 = λ all. IsWayOf (setting_in all) c.args.number c.in-Some.kept.now.way in
    subst Of c.self.view_is (c.self.invariant.ways c.args.number c.in-Some.kept.now c.in-Some.ensures).way
