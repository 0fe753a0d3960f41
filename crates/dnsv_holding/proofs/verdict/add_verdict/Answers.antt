use Rattle.std.proofs.Common.{[]}
use Rattle.dnsv_holding.proofs.lemmas.telling.SecureLemmas.{settled_by}
use Rattle.dnsv_holding.proofs.lemmas.telling.TellLemmas.{todo_same}
use Rattle.dnsv_holding.proofs.verdict.add_verdict.Goals as goal

pub add_settled-requires-clause-at : goal.add_settled-requires-clause-at
add_settled-requires-clause-at c = record {
  trust = c.requires.trust;
  evidence = todo_same c.args.case.now c.args.evidence.now [] c.requires.evidence;
  hashes = c.requires.hashes;
}

pub add_settled-requires-clause-verdict : goal.add_settled-requires-clause-verdict
add_settled-requires-clause-verdict c =
    let judged = c.args.judged.now in
    settled_by c.args.case.now c.args.evidence.now [] c.requires.evidence judged.report.last c.args.rtype.0 judged.report.verdict
    (c.is_settled.ensures.0 c.if-is_settled.true) c.requires.verdict
