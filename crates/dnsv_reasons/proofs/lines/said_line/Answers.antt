use Rattle.std.proofs.Common.{subst, sym}
use Rattle.std.specs.Prelude.{IfOk, MatchOption}
use Rattle.dnsv_gaps.specs.Asking.{asking}
use Rattle.dnsv_lines.specs.declared.line.Line.{Line}
use Rattle.dnsv_remedies.specs.declared.said.Said.{Said}
use Rattle.dnsv_reasons.specs.Lines.{IsSaidLine}
use Rattle.dnsv_reasons.proofs.lines.said_line.Goals as goal

pub returns-in-Trust : goal.returns-in-Trust
returns-in-Trust c =
    subst (λ (told : Said). IfOk c.trust_line.result (λ found. MatchOption found ((each : Line) → ¬ IsSaidLine (asking c.args.question.now) told each) (IsSaidLine (asking c.args.question.now) told)))
    (sym c.in-Trust.is) c.trust_line.ensures

pub returns-in-NoCloser : goal.returns-in-NoCloser
returns-in-NoCloser c =
    subst (λ (told : Said). MatchOption c.closer_line.result ((each : Line) → ¬ IsSaidLine (asking c.args.question.now) told each) (IsSaidLine (asking c.args.question.now) told))
    (sym c.in-NoCloser.is) c.closer_line.ensures

pub returns-in-Dname : goal.returns-in-Dname
returns-in-Dname c =
    subst (λ (told : Said). MatchOption c.dname_line.result ((each : Line) → ¬ IsSaidLine (asking c.args.question.now) told each) (IsSaidLine (asking c.args.question.now) told))
    (sym c.in-Dname.is) c.dname_line.ensures

pub returns-in-DnameHeld : goal.returns-in-DnameHeld
returns-in-DnameHeld c =
    subst (λ (told : Said). MatchOption c.dname_line-in-DnameHeld.result ((each : Line) → ¬ IsSaidLine (asking c.args.question.now) told each) (IsSaidLine (asking c.args.question.now) told))
    (sym c.in-DnameHeld.is) c.dname_line-in-DnameHeld.ensures

pub returns-in-Nsec3 : goal.returns-in-Nsec3
returns-in-Nsec3 c =
    subst (λ (told : Said). MatchOption c.unusable_line.result ((each : Line) → ¬ IsSaidLine (asking c.args.question.now) told each) (IsSaidLine (asking c.args.question.now) told))
    (sym c.in-Nsec3.is) c.unusable_line.ensures

pub returns-in-Source : goal.returns-in-Source
returns-in-Source c =
    subst (λ (told : Said). IfOk c.source_line.result (λ found. MatchOption found ((each : Line) → ¬ IsSaidLine (asking c.args.question.now) told each) (IsSaidLine (asking c.args.question.now) told)))
    (sym c.in-Source.is) c.source_line.ensures

pub returns-in-AnswerMissing : goal.returns-in-AnswerMissing
returns-in-AnswerMissing c =
    subst (λ (told : Said). MatchOption c.missing_line.result ((each : Line) → ¬ IsSaidLine (asking c.args.question.now) told each) (IsSaidLine (asking c.args.question.now) told))
    (sym c.in-AnswerMissing.is) c.missing_line.ensures

pub returns-in-DenialUnproved : goal.returns-in-DenialUnproved
returns-in-DenialUnproved c =
    subst (λ (told : Said). MatchOption c.unproved_line.result ((each : Line) → ¬ IsSaidLine (asking c.args.question.now) told each) (IsSaidLine (asking c.args.question.now) told))
    (sym c.in-DenialUnproved.is) c.unproved_line.ensures

pub returns-in-DsUnproved : goal.returns-in-DsUnproved
returns-in-DsUnproved c =
    subst (λ (told : Said). MatchOption c.cut_line.result ((each : Line) → ¬ IsSaidLine (asking c.args.question.now) told each) (IsSaidLine (asking c.args.question.now) told))
    (sym c.in-DsUnproved.is) c.cut_line.ensures
