use Rattle.dnsv_reasons.proofs.lemmas.OnceLemmas.{failures_differ, failures_once}
use Rattle.dnsv_reasons.proofs.laws.once.no_line_that_fails_stands_twice.Goals as goal

pub returns-clause-same : goal.returns-clause-same
returns-clause-same c = failures_once

pub returns-clause-equal : goal.returns-clause-equal
returns-clause-equal c = failures_differ
