use Rattle.dnsv_gaps.proofs.AnswerLemmas.{is_there}
use Rattle.dnsv_denial.specs.gathering.Evidence.{IsHashedOwner}
use Rattle.dnsv_gaps.proofs.sources.unusable.is_in_front.Goals as goal

pub returns : goal.returns
returns c = is_there (IsHashedOwner c.args.zone.now c.args.owner.now) c.owner_hash.result c.is_some.result c.is_some.ensures c.owner_hash.ensures
