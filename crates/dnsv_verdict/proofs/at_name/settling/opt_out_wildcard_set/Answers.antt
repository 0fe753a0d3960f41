-- what is found for the view is found for its evidence
use Rattle.std.proofs.Common.{ℕ, subst, sym}
use Rattle.std.specs.Prelude.{MatchOption}
use Rattle.dnsv_verdict.proofs.SearchLemmas.ViewLemmas.{AtFirstSuch, AtNumbers, IsOptOutWildcardForView, viewed}
use Rattle.dnsv_verdict.proofs.at_name.settling.opt_out_wildcard_set.Goals as goal

pub returns : goal.returns
returns c =
    let view = c.args.view.now in
    subst (λ of. MatchOption c.first_such.result ((k s : ℕ) → ¬ AtNumbers of (IsOptOutWildcardForView c.args.rtype.0 view) k s)
    (λ found. AtFirstSuch of (IsOptOutWildcardForView c.args.rtype.0 view) found.rrset found.signature found.rrsig.now))
    (sym (viewed view c.capture.ensures c.trust.ensures c.name.ensures)) c.first_such.ensures
