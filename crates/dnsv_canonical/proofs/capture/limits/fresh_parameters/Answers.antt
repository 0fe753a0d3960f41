use Rattle.std.proofs.Common.{◌++◌, take, sym, ap, ◌∙◌, subst, append_assoc, arith}
use Rattle.std.proofs.lemmas.List.{append-nil, take_all}
use Rattle.std.proofs.lemmas.Result.{err_from_is_err_and}
use Rattle.dnsv_canonical.specs.Evidence.{AreParameters, nsec3_rdata}
use Rattle.dnsv_canonical.proofs.ParameterLemmas.{pairs_kept, nsec3_rdata_more, refused_rrset}
use Rattle.dnsv_canonical.proofs.capture.limits.fresh_parameters.Goals as goal

pub loop-rrset-init : goal.loop-rrset-init
loop-rrset-init c = record {
  all = λ earlier are. rw c.new-fresh.ensures.items (pairs_kept earlier c.args.kept.now are);
  few = λ few. rw (c.new-fresh.ensures.items, append-nil c.args.kept.now) few;
}

pub loop-rrset-preserved : goal.loop-rrset-preserved
loop-rrset-preserved c = record {
  all = λ earlier are.
      subst (λ received. AreParameters received (c.args.kept.now ++ c.add_rrset.new.fresh.items))
      (append_assoc earlier (nsec3_rdata (take c.loop-rrset.rrset-index c.args.rrsets.now)) _
      ∙ ap (λ more. earlier ++ more) (sym (nsec3_rdata_more c.args.rrsets.now c.loop-rrset.rrset-index c.rrset-item.result c.loop-rrset-test.true c.rrset-item.is)))
      (c.in_ok-add_rrset.ensures.all (earlier ++ nsec3_rdata (take c.loop-rrset.rrset-index c.args.rrsets.now)) (c.loop-rrset.invariant.all earlier are));
  few = λ few. c.in_ok-add_rrset.ensures.few (c.loop-rrset.invariant.few few);
}

pub returns-in_err-add_rrset-clause-refused : goal.returns-in_err-add_rrset-clause-refused
returns-in_err-add_rrset-clause-refused c = λ earlier are.
    let p = err_from_is_err_and c.from_residual.result c.from_residual.ensures.1 in
    rw (p.1, p.2) (refused_rrset earlier c.args.rrsets.now c.loop-rrset.rrset-index c.rrset-item.result _ c.loop-rrset-test.true c.rrset-item.is
    (c.in_err-add_rrset.ensures.refused (earlier ++ nsec3_rdata (take c.loop-rrset.rrset-index c.args.rrsets.now)) (c.loop-rrset.invariant.all earlier are)))

pub returns-clause-all : goal.returns-clause-all
returns-clause-all c = λ earlier are.
    subst (λ rrsets. AreParameters (earlier ++ nsec3_rdata rrsets) (c.args.kept.now ++ c.loop-rrset.fresh.items))
    (take_all c.loop-rrset.rrset-index c.args.rrsets.now (omega arith)) (c.loop-rrset.invariant.all earlier are)
