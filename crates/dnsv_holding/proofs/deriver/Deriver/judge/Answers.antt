use Rattle.std.proofs.Common.{◌≡◌, ◌∙◌, refl, subst, sym}
use Rattle.std.proofs.lemmas.Result.{err_from_is_err_and}
use Rattle.dnsv_verdict.proofs.ReportLemmas.{same_refusal}
use Rattle.dnsv_chain.specs.Basis.{CaseContents, IsCaseOf, basis_by}
use Rattle.dnsv_verdict.specs.Hope.{HasHope}
use Rattle.dnsv_verdict.specs.Verdict.{IsVerdictAt}
use Rattle.dnsv_verdict.specs.Way.{IsVerdictOf}
use Rattle.dnsv_verdict.specs.Report.{IsKept, hashes_in}
use Rattle.dnsv_holding.specs.SharedWays.{AreHopedWays, AreOfCase}
use Rattle.dnsv_holding.proofs.lemmas.telling.RefusalLemmas.{not_refused, without_memory}
use Rattle.dnsv_holding.proofs.deriver.Deriver.judge.Goals as goal

-- the case that is asked is the one as it was
case_is : {now after before : CaseContents} → now ≡ after → after ≡ before → before ≡ now
case_is there same = sym (there ∙ same)

pub invariant_of-self : goal.invariant_of-self
invariant_of-self c =
    let same = sym c.in_err-judged.ensures.same in (
      subst (λ (each : CaseContents). AreOfCase each c.self.inside.ways.items) same c.self.invariant.0,
      subst (λ (each : CaseContents). AreHopedWays each c.self.inside.hoped.items) same c.self.invariant.1,
    )

pub invariant_of-self-in_err-keep_hoped : goal.invariant_of-self-in_err-keep_hoped
invariant_of-self-in_err-keep_hoped c = (
  subst (λ (each : CaseContents). AreOfCase each c.self.inside.ways.items) (sym c.in_ok-judged.ensures.same) c.self.invariant.0,
  subst (λ (each : CaseContents). AreHopedWays each c.keep_hoped.new.hoped.items) c.case-case.ensures c.in_err-keep_hoped.ensures,
)

pub invariant_of-self-2 : goal.invariant_of-self-2
invariant_of-self-2 c = (
  subst (λ (each : CaseContents). AreOfCase each c.self.inside.ways.items) (sym c.in_ok-judged.ensures.same) c.self.invariant.0,
  subst (λ (each : CaseContents). AreHopedWays each c.keep_hoped.new.hoped.items) c.case-case.ensures c.in_ok-keep_hoped.ensures,
)

pub keep_hoped-requires-clause-hoped : goal.keep_hoped-requires-clause-hoped
keep_hoped-requires-clause-hoped c =
    let same = case_is c.case-case.ensures c.in_ok-judged.ensures.same in
    subst (λ (each : CaseContents). AreHopedWays each c.self.inside.hoped.items) same c.self.invariant.1

pub keep_hoped-requires-clause-verdict : goal.keep_hoped-requires-clause-verdict
keep_hoped-requires-clause-verdict c =
    let same = case_is c.case-case.ensures c.in_ok-judged.ensures.same in
    let report = c.in_ok-judged.judged.report in
    subst (λ (each : CaseContents). IsVerdictAt (basis_by each) report.last c.args.rtype.0 report.verdict) same
    (c.in_ok-judged.ensures.by_table c.self.invariant.0.basis c.self.invariant.0.of).is_verdict

pub keep_hoped-requires-clause-hope : goal.keep_hoped-requires-clause-hope
keep_hoped-requires-clause-hope c =
    let same = case_is c.case-case.ensures c.in_ok-judged.ensures.same in
    let judged = c.in_ok-judged.judged in
    subst (λ (each : CaseContents). HasHope each judged.report.last c.args.rtype.0 judged.report.verdict judged.hope) same
    (c.in_ok-judged.ensures.kept refl).hoped

pub returns-in_err-judged-clause-refused : goal.returns-in_err-judged-clause-refused
returns-in_err-judged-clause-refused c = λ basis same.
    let is : IsCaseOf basis c.self.inside.open_case = subst (λ (case : CaseContents). IsCaseOf basis case) (sym c.self.view_is) same in
    let p = err_from_is_err_and c.from_residual.result c.from_residual.ensures.1 in
    rw (p.1, p.2) (same_refusal basis c.args.name.now c.args.rtype.0 c.in_err-judged.field-0.0 (c.in_err-judged.ensures.refused basis is))

pub returns-in_err-keep_hoped-clause-refused : goal.returns-in_err-keep_hoped-clause-refused
returns-in_err-keep_hoped-clause-refused c = λ basis same.
    let is : IsCaseOf basis c.self.inside.open_case = subst (λ (case : CaseContents). IsCaseOf basis case) (sym c.self.view_is) same in
    let p = err_from_is_err_and c.from_residual-in_err-keep_hoped.result c.from_residual-in_err-keep_hoped.ensures.1 in
    rw (p.1, p.2) (without_memory basis c.args.name.now c.args.rtype.0 c.in_ok-judged.judged (c.in_ok-judged.ensures.refused basis is))

pub returns-clause-report : goal.returns-clause-report
returns-clause-report c = λ basis same.
    c.in_ok-judged.ensures.report basis (subst (λ (case : CaseContents). IsCaseOf basis case) (sym c.self.view_is) same)

pub returns-clause-refused : goal.returns-clause-refused
returns-clause-refused c = λ basis same.
    let is : IsCaseOf basis c.self.inside.open_case = subst (λ (case : CaseContents). IsCaseOf basis case) (sym c.self.view_is) same in
    not_refused basis c.args.name.now c.args.rtype.0 c.in_ok-judged.judged (c.in_ok-judged.ensures.refused basis is) _

pub returns-clause-by_table : goal.returns-clause-by_table
returns-clause-by_table c =
    let report = c.in_ok-judged.judged.report in
    subst (λ (each : CaseContents). IsVerdictOf (basis_by each) c.args.name.now c.args.rtype.0 report.links report.last report.verdict) c.self.view_is
    (c.in_ok-judged.ensures.by_table c.self.invariant.0.basis c.self.invariant.0.of)

pub returns-clause-kept : goal.returns-clause-kept
returns-clause-kept c =
    let judged = c.in_ok-judged.judged in
    subst (λ (each : CaseContents). IsKept each c.args.rtype.0 judged.report.links judged.report.last judged.report.verdict (hashes_in judged) judged.hope) c.self.view_is
    (c.in_ok-judged.ensures.kept refl)
