use Rattle.dnsv_verifier.proofs.TimelyLemmas.{ok_then}
use Rattle.dnsv_verifier.proofs.ask.ask_all.Goals as goal

pub returns-clause-table : goal.returns-clause-table
returns-clause-table g c =
    ok_then (g.V.Verifier.meaning c.args.verifier.now) c.args.moment c.args.capture.now.rrsets c.in-Some.range c.ask_within.result c.in-Some.ensures.1 c.ask_within.ensures.moment c.ask_within.ensures.table
