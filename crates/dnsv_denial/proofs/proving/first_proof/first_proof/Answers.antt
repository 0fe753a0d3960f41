use Rattle.std.proofs.Common.{◌-◌, ◌<◌, length, arith}
use Rattle.dnsv_chain.specs.Trust.{SecuredIn}
use Rattle.dnsv_denial.proofs.lemmas.proving.FirstProofLemmas.{first_of_all, none_of_all, one_fewer, zone_at}
use Rattle.dnsv_denial.proofs.proving.first_proof.first_proof.Goals as goal

pub loop-labels-init : goal.loop-labels-init
loop-labels-init c = (omega arith, λ trust rrsets sets zones k other most small stands. absurd (omega (arith, zones.count, most, small)))

pub bounds-zones-labels : goal.bounds-zones-labels
bounds-zones-labels c = omega (arith, c.loop-labels.invariant.0, c.loop-labels-test.true)

pub returns-in-Some : goal.returns-in-Some
returns-in-Some c = λ trust rrsets sets zones.
    let within : c.loop-labels.labels - 1 < length c.args.zones.now = omega (arith, c.loop-labels.invariant.0, c.loop-labels-test.true) in
    let kept = zone_at (SecuredIn trust) rrsets c.args.name.now c.args.zones.now (c.loop-labels.labels - 1) c.index-zones-labels.result zones within c.index-zones-labels.is in
    first_of_all (SecuredIn trust) rrsets c.args.denial c.args.name.now (c.loop-labels.labels - 1) c.loop-labels.labels c.index-zones-labels.result.zone c.in-Some.shown
    (omega (arith, c.loop-labels-test.true)) (omega (arith, within, zones.count)) kept.0 (c.loop-labels.invariant.1 trust rrsets sets zones)
    (c.in-Some.ensures trust rrsets kept.1 sets)

pub loop-labels-preserved : goal.loop-labels-preserved
loop-labels-preserved c = (
  omega (arith, c.loop-labels.invariant.0),
  λ trust rrsets sets zones.
      let within : c.loop-labels.labels - 1 < length c.args.zones.now = omega (arith, c.loop-labels.invariant.0, c.loop-labels-test.true) in
      let kept = zone_at (SecuredIn trust) rrsets c.args.name.now c.args.zones.now (c.loop-labels.labels - 1) c.index-zones-labels.result zones within c.index-zones-labels.is in
      one_fewer (SecuredIn trust) rrsets c.args.denial c.args.name.now (c.loop-labels.labels - 1) c.loop-labels.labels c.index-zones-labels.result.zone
      (omega (arith, c.loop-labels-test.true)) kept.0 (c.in_default.ensures trust rrsets kept.1 sets) (c.loop-labels.invariant.1 trust rrsets sets zones),
)

pub returns : goal.returns
returns c = λ trust rrsets sets zones.
    let none = c.loop-labels.invariant.1 trust rrsets sets zones in
    none_of_all (SecuredIn trust) rrsets c.args.denial c.args.name.now (λ k other most small. none k other (omega (arith, c.loop-labels-test.false)) small)
