use Rattle.std.proofs.lemmas.Option.{MatchOption-at_none, MatchOption-at_some}
use Rattle.dnsv_gaps.proofs.speakers.cases.source_case.Goals as goal

pub returns-in-Some : goal.returns-in-Some
returns-in-Some c = MatchOption-at_some _ _ c.in-Some.closed c.in-Some.is c.in_ok-found.ensures

pub open_case-requires-clause-before : goal.open_case-requires-clause-before
open_case-requires-clause-before c = MatchOption-at_none _ _ c.in_default.is c.in_ok-found.ensures
