use Rattle.std.proofs.Common.{arith, subst, sym}
use Rattle.dnsv_zones.specs.forms.Nsec.{IsAbsentBy}
use Rattle.dnsv_proof_forms.specs.records.Record.{read_entry}
use Rattle.dnsv_proof_forms.proofs.lemmas.forms.EndLimitLemmas.{denies_no_fewer}
use Rattle.dnsv_proof_forms.proofs.forms.end_limits.absent_with.Goals as goal

pub returns-then-not-is_absent-clause-fewest : goal.returns-then-not-is_absent-clause-fewest
returns-then-not-is_absent-clause-fewest c =
    denies_no_fewer c.args.name.now c.args.entry.now c.loop-fewest.fewest (omega (arith, c.loop-fewest-test.true))
    (λ absent. let holds = c.is_absent.ensures.1 (subst (IsAbsentBy (read_entry c.args.entry.now)) (sym c.suffix-higher.ensures.labels) absent) in
    let fails = c.if-not-is_absent.true in cc)
