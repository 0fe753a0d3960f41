use Rattle.std.proofs.Common.{◌↔◌, sym, subst}
use Rattle.std.specs.Prelude.{IsTrue}
use Rattle.dnsv_derivations.specs.derivations.WaySearch.{MatchesBy}
use Rattle.dnsv_derivations.specs.declared.derivations.ways.matcher.Matcher.{Matcher}
use Rattle.dnsv_derivations.proofs.derivations.ways.matcher.Matcher.is_match.Goals as goal

pub returns-in-Ds : goal.returns-in-Ds
returns-in-Ds c =
    let By : Matcher → Type 0 = λ each. IsTrue c.is_ds_match.result ↔ MatchesBy each c.args.key.now in
    subst By (sym c.in-Ds.is) c.is_ds_match.ensures
