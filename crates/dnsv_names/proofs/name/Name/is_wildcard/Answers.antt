use Rattle.std.proofs.Common.{rules}
use Rattle.dnsv_names.proofs.TreeLemmas.{is_wildcard_Decides}
use Rattle.dnsv_names.proofs.name.Name.is_wildcard.Goals as goal

pub returns-then-labels-gt0-clause-test : goal.returns-then-labels-gt0-clause-test
returns-then-labels-gt0-clause-test c = search rules

pub returns-then-labels-gt0-clause-wildcard : goal.returns-then-labels-gt0-clause-wildcard
returns-then-labels-gt0-clause-wildcard c = rw (returns-then-labels-gt0-clause-test c) (is_wildcard_Decides c.args.self.now)
