use Rattle.dnsv_remedies.proofs.SameLines.{itself, same}
use Rattle.dnsv_remedies.proofs.laws.lines_that_say_the_same_are_equal.Goals as goal

pub returns-clause-same : goal.returns-clause-same
returns-clause-same c = same

pub returns-clause-itself : goal.returns-clause-itself
returns-clause-itself c = itself
