use Rattle.dnsv_timeline.proofs.WindowLemmas.{never}
use Rattle.dnsv_timeline.proofs.LawLemmas.{odd_changes, usual_changes}
use Rattle.dnsv_timeline.proofs.laws.where_signatures_change.Goals as goal

pub returns-clause-usual : goal.returns-clause-usual
returns-clause-usual c = usual_changes

pub returns-clause-odd : goal.returns-clause-odd
returns-clause-odd c = odd_changes

pub returns-clause-never : goal.returns-clause-never
returns-clause-never c = never
