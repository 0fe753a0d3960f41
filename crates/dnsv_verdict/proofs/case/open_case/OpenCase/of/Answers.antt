use Rattle.dnsv_verdict.proofs.case.open_case.OpenCase.of.Goals as goal

pub invariant_of-result : goal.invariant_of-result
invariant_of-result c = c.new.ensures c.args.case
