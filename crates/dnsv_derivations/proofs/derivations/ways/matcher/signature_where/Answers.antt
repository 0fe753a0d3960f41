use Rattle.std.proofs.lemmas.Option.{MatchOption-at_none}
use Rattle.dnsv_derivations.proofs.derivations.ways.matcher.signature_where.Goals as goal

pub returns-in_default : goal.returns-in_default
returns-in_default c = λ setting k rrset its s matches. MatchOption-at_none _ _ c.in_default.is its s
