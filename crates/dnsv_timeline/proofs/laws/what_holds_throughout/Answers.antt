use Rattle.dnsv_timeline.proofs.OneTimeline.{said_throughout}
use Rattle.dnsv_timeline.proofs.laws.what_holds_throughout.Goals as goal

pub returns : goal.returns
returns g c = said_throughout
