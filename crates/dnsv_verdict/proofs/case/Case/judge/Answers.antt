use Rattle.dnsv_verdict.proofs.case.Case.judge.Goals as goal

pub judge_sharing-requires : goal.judge_sharing-requires
judge_sharing-requires c = c.new-shared.ensures c.args.self.now
