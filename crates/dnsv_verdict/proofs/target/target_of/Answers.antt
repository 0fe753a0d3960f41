use Rattle.std.proofs.Common.{map, sym, subst}
use Rattle.std.proofs.lemmas.Option.{MatchOption-at_some}
use Rattle.dnsv_canonical.specs.Canonical.{IsCanonical}
use Rattle.dnsv_canonical.specs.CanonicalRdata.{canonical_form}
use Rattle.dnsv_verdict.proofs.WayLemmas.TargetLemmas.{target_from}
use Rattle.dnsv_verdict.proofs.target.target_of.Goals as goal

pub returns : goal.returns
returns c =
    let rrset = c.in-Some.numbered.now in
    target_from c.args.capture.now.rrsets c.args.rrset rrset (map (λ r. r.items) c.as_slice.result.now) c.one_name.result
    (MatchOption-at_some _ _ c.in-Some.numbered c.in-Some.is c.rrset.ensures)
    (subst (λ forms. IsCanonical (map (canonical_form rrset.rtype) rrset.rdata) (map (λ r. r.items) forms)) (sym c.as_slice.ensures.value) c.in_ok-canonical.ensures)
    c.one_name.ensures
