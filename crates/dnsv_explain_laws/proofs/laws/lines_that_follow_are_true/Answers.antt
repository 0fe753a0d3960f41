use Rattle.std.proofs.Common.{[]}
use Rattle.dnsv_lines.specs.declared.line.Line.TheVariants as line
use Rattle.dnsv_explain_laws.proofs.holding.FollowingLemmas.{all_true, no_lines, part_true}
use Rattle.dnsv_derivations.proofs.lemmas.intervals.MomentLemmas.{all_shown_valid}
use Rattle.dnsv_explain_laws.proofs.laws.lines_that_follow_are_true.Goals as goal

pub returns-clause-trusted : goal.returns-clause-trusted
returns-clause-trusted c = λ setting lines keys follows there.
    all_true setting [] lines (no_lines setting) follows (line.Trusted keys) there

pub returns-clause-signed : goal.returns-clause-signed
returns-clause-signed c = λ setting lines signed follows there.
    let is = all_true setting [] lines (no_lines setting) follows (line.Signed signed) there in (is.0, is.1, is.2, is.3, is.4)

pub returns-clause-keys : goal.returns-clause-keys
returns-clause-keys c = λ setting lines signed follows there.
    let is = all_true setting [] lines (no_lines setting) follows (line.Signed signed) there in (is.5, is.6, is.7, is.8, is.9, is.10, is.11)

pub returns-clause-part : goal.returns-clause-part
returns-clause-part c = λ setting lines part follows there.
    part_true setting [] lines (no_lines setting) follows part there

pub returns-clause-cases : goal.returns-clause-cases
returns-clause-cases c = λ setting lines cut follows there.
    all_true setting [] lines (no_lines setting) follows (line.Case cut) there

pub returns-clause-unusable : goal.returns-clause-unusable
returns-clause-unusable c = λ setting lines unusable follows there.
    all_true setting [] lines (no_lines setting) follows (line.Unusable unusable) there

pub returns-clause-places : goal.returns-clause-places
returns-clause-places c = λ setting lines place follows there.
    all_true setting [] lines (no_lines setting) follows (line.Rrset place) there

pub returns-clause-valid : goal.returns-clause-valid
returns-clause-valid c = all_shown_valid
