use Rattle.std.proofs.Common.{List, subst}
use Rattle.std.specs.Prelude.{MatchOption}
use Rattle.dnsv_names.specs.Name.{Labels}
use Rattle.dnsv_canonical.specs.Rrsets.{ReceivedRrset}
use Rattle.dnsv_verdict.specs.Way.{IsTarget}
use Rattle.dnsv_verdict.proofs.way.target_in.Goals as goal

pub returns : goal.returns
returns c =
    let Is : List ReceivedRrset → Type 0 =
    λ all. MatchOption c.in_ok-target.target ((target : Labels) → ¬ IsTarget all c.args.rrset target) (IsTarget all c.args.rrset) in
    subst Is c.capture.ensures c.in_ok-target.ensures
