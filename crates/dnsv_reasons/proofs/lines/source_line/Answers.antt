use Rattle.std.proofs.lemmas.Option.{MatchOption-at_none}
use Rattle.dnsv_reasons.proofs.lines.source_line.Goals as goal

pub returns-in_default-2 : goal.returns-in_default-2
returns-in_default-2 c = λ line is. MatchOption-at_none _ _ c.in_default-2.is c.in_ok-source.ensures is.0 is.2
