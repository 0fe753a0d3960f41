use Rattle.std.proofs.Common.{[]}
use Rattle.dnsv_holding.proofs.lemmas.telling.TellLemmas.{todo_same}
use Rattle.dnsv_holding.proofs.links.add_link.Goals as goal

pub add_set-requires-clause-at : goal.add_set-requires-clause-at
add_set-requires-clause-at c = record {
  trust = c.requires.trust;
  evidence = todo_same c.args.case.now c.args.evidence.now [] c.requires.evidence;
  hashes = c.requires.hashes;
}
