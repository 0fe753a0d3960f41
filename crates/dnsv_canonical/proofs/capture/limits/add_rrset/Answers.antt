use Rattle.dnsv_canonical.specs.Evidence.{AreParameters}
use Rattle.std.proofs.Common.{◌++◌, subst}
use Rattle.std.specs.Prelude.{IfErr}
use Rattle.dnsv_canonical.specs.Kept.{IsParametersRefusal}
use Rattle.dnsv_canonical.proofs.ParameterLemmas.{nsec3_rdata_of}
use Rattle.dnsv_canonical.proofs.ReadableLemmas.{OnOk-weaker}
use Rattle.dnsv_canonical.proofs.capture.limits.add_rrset.Goals as goal

pub returns-clause-all : goal.returns-clause-all
returns-clause-all c =
    OnOk-weaker c.add_records.result
    (λ all earlier are. subst (λ received. AreParameters (earlier ++ received) (c.args.kept.now ++ c.add_records.new.fresh.items)) (nsec3_rdata_of c.args.rrset.now) (all earlier _ c.nsec3s.ensures are))
    c.add_records.ensures.all

pub returns-clause-refused : goal.returns-clause-refused
returns-clause-refused c = λ earlier are.
    subst (λ received. IfErr c.add_records.result (IsParametersRefusal (earlier ++ received))) (nsec3_rdata_of c.args.rrset.now)
    (c.add_records.ensures.refused earlier _ c.nsec3s.ensures are)
