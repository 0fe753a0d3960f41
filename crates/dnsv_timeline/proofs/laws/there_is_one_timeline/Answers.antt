use Rattle.dnsv_timeline.proofs.OneTimeline.{one_timeline, some_timeline}
use Rattle.dnsv_timeline.proofs.laws.there_is_one_timeline.Goals as goal

pub returns-clause-one : goal.returns-clause-one
returns-clause-one g c = one_timeline

pub returns-clause-some : goal.returns-clause-some
returns-clause-some g c = some_timeline
