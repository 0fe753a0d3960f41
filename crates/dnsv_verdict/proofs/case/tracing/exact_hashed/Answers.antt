use Rattle.std.proofs.Common.{◌∙◌, List, subst}
use Rattle.dnsv_canonical.specs.Evidence.{AreParameters, AreParametersAmong, AtMost, nsec3_rdata}
use Rattle.dnsv_canonical.specs.Rrsets.{ReceivedRrset}
use Rattle.dnsv_verdict.proofs.ReportLemmas.HashedLemmas.{counted_exactly, few_hashed_on}
use Rattle.dnsv_verdict.proofs.WayLemmas.{few_names}
use Rattle.dnsv_verdict.specs.Way.{names_on}
use Rattle.dnsv_verdict.proofs.case.tracing.exact_hashed.Goals as goal

pub returns-clause-exact : goal.returns-clause-exact
returns-clause-exact c =
    let way = c.args.way.now in
    let rrsets = c.args.case.now.rrsets in
    let all = c.nsec3_parameters-parameters.result.now in
    let are : AreParameters (nsec3_rdata rrsets) all =
    subst (λ (each : List ReceivedRrset). AreParameters (nsec3_rdata each) all) c.capture-capture.ensures c.nsec3_parameters-parameters.ensures in
    let limit : AtMost 8 (AreParametersAmong (nsec3_rdata rrsets)) =
    subst (λ (each : List ReceivedRrset). AtMost 8 (AreParametersAmong (nsec3_rdata each))) c.capture-capture.ensures c.rrsets-limits.ensures.limits.parameters in
    record {
      all = all;
      are = are;
      is = c.value.ensures.value ∙ c.requires.hashed all are
          ∙ counted_exactly rrsets (names_on way.links way.last) all limit are c.requires.names (few_names way.links way.last c.as_slice-links.ensures.few);
    }

pub returns-clause-few : goal.returns-clause-few
returns-clause-few c =
    let way = c.args.way.now in
    few_hashed_on c.args.case.now.rrsets (names_on way.links way.last) _
    (subst (λ (each : List ReceivedRrset). AtMost 8 (AreParametersAmong (nsec3_rdata each))) c.capture-capture.ensures c.rrsets-limits.ensures.limits.parameters)
    (returns-clause-exact c)
