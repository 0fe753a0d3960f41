use Rattle.dnsv_verdict.proofs.case.Case.trace.Goals as goal

pub trace_sharing-requires : goal.trace_sharing-requires
trace_sharing-requires c = c.new-shared.ensures c.args.self.now
