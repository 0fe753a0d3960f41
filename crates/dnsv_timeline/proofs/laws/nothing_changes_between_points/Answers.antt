use Rattle.dnsv_timeline.proofs.LawLemmas.{same_until}
use Rattle.dnsv_timeline.proofs.laws.nothing_changes_between_points.Goals as goal

pub returns : goal.returns
returns c = same_until
