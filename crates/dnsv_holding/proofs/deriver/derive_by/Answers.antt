use Rattle.std.proofs.Common.{◌≡◌, ◌∙◌, [], List, inl, refl, subst, sym}
use Rattle.std.proofs.lemmas.Result.{err_from_is_err_and}
use Rattle.dnsv_chain.specs.Basis.{CaseContents, IsCaseOf, basis_by}
use Rattle.dnsv_verdict.specs.Traced.{IsKeptWith, IsTrace, IsWayTo}
use Rattle.dnsv_verdict.specs.declared.error.VerdictError.TheVariants.{BadQuestion}
use Rattle.dnsv_verdict.specs.declared.traced.Traced.{Traced}
use Rattle.dnsv_derivations.specs.Explained.{Explained, setting_in}
use Rattle.dnsv_holding.specs.Explained.{explained_by}
use Rattle.dnsv_holding.specs.SharedWays.{AreHopedWays}
use Rattle.dnsv_derivations.specs.derivations.WaySearch.{AreFirstWays}
use Rattle.dnsv_derivations.specs.declared.derivations.ways.kept.KeptWay.{KeptWay}
use Rattle.dnsv_holding.proofs.lemmas.telling.DerivedLemmas.{derivation_by, same_error, stop_derived}
use Rattle.dnsv_holding.proofs.deriver.derive_by.Goals as goal

-- the case that is asked is the one as it was
case_is : {now after before : CaseContents} → now ≡ after → after ≡ before → before ≡ now
case_is there same = sym (there ∙ same)

pub with_ways-evidence-requires : goal.with_ways-evidence-requires
with_ways-evidence-requires c =
    let same = case_is c.case-case.ensures c.in_ok-traced.ensures.same in
    let ways = c.args.ways.now in
    let of_case = subst (λ (each : CaseContents). AreFirstWays (setting_in (explained_by each [])) ways) same c.requires.ways.ways in
    subst (λ (each : Explained). AreFirstWays (setting_in each) ways) (sym c.evidence_of-bare.ensures) of_case

pub keep_hoped-requires-clause-hoped : goal.keep_hoped-requires-clause-hoped
keep_hoped-requires-clause-hoped c =
    let same = case_is c.case-case.ensures c.in_ok-traced.ensures.same in
    subst (λ (each : CaseContents). AreHopedWays each c.args.hoped.now.items) same c.requires.hoped

pub keep_hoped-requires-clause-verdict : goal.keep_hoped-requires-clause-verdict
keep_hoped-requires-clause-verdict c =
    let same = case_is c.case-case.ensures c.in_ok-traced.ensures.same in
    let To : CaseContents → Traced → Type 0 = λ case each. IsWayTo (basis_by case) c.args.name.now c.args.rtype.0 each in
    let its = c.requires.ways in
    (subst (To c.case-case.result.now) c.in-Reached.is
    (subst (λ case. To case c.in_ok-traced.traced) same (c.in_ok-traced.ensures.by_table its.basis its.of))).is_verdict

pub keep_hoped-requires-clause-hope : goal.keep_hoped-requires-clause-hope
keep_hoped-requires-clause-hope c =
    let same = case_is c.case-case.ensures c.in_ok-traced.ensures.same in
    let With : CaseContents → Traced → Type 0 = λ case each. IsKeptWith case c.args.rtype.0 each in
    (subst (With c.case-case.result.now) c.in-Reached.is
    (subst (λ case. With case c.in_ok-traced.traced) same c.in_ok-traced.ensures.kept)).hoped

pub derivation_of-requires : goal.derivation_of-requires
derivation_of-requires c =
    let same = case_is c.case-case.ensures c.in_ok-traced.ensures.same in
    let With : CaseContents → Traced → Type 0 = λ case each. IsKeptWith case c.args.rtype.0 each in
    let To : CaseContents → Traced → Type 0 = λ case each. IsWayTo (basis_by case) c.args.name.now c.args.rtype.0 each in
    let its = c.requires.ways in record {
      trust = c.trust-trust.ensures.of;
      hoped = subst (λ (ways : List KeptWay). AreHopedWays c.case-case.result.now ways) (sym c.deref.ensures.value) c.in_ok-keep_hoped-in-Reached.ensures;
      evidence = c.with_ways-evidence.ensures ∙ c.evidence_of-bare.ensures;
      kept = subst (With c.case-case.result.now) c.in-Reached.is
          (subst (λ case. With case c.in_ok-traced.traced) same c.in_ok-traced.ensures.kept);
      verdict = (
        c.args.name.now,
        subst (To c.case-case.result.now) c.in-Reached.is
            (subst (λ case. To case c.in_ok-traced.traced) same (c.in_ok-traced.ensures.by_table its.basis its.of)),
      );
    }

pub stop_derivation_of-requires-clause-trust : goal.stop_derivation_of-requires-clause-trust
stop_derivation_of-requires-clause-trust c = c.trust-trust.ensures.of

pub stop_derivation_of-requires-clause-kept : goal.stop_derivation_of-requires-clause-kept
stop_derivation_of-requires-clause-kept c =
    let same = case_is c.case-case.ensures c.in_ok-traced.ensures.same in
    let With : CaseContents → Traced → Type 0 = λ case each. IsKeptWith case c.args.rtype.0 each in
    subst (With c.case-case.result.now) c.in-Stopped.is
    (subst (λ case. With case c.in_ok-traced.traced) same c.in_ok-traced.ensures.kept)

pub stop_derivation_of-requires-clause-stopped : goal.stop_derivation_of-requires-clause-stopped
stop_derivation_of-requires-clause-stopped c =
    let same = case_is c.case-case.ensures c.in_ok-traced.ensures.same in
    let To : CaseContents → Traced → Type 0 = λ case each. IsWayTo (basis_by case) c.args.name.now c.args.rtype.0 each in
    let its = c.requires.ways in (
      c.args.name.now,
      c.args.rtype.0,
      subst (To c.case-case.result.now) c.in-Stopped.is
          (subst (λ case. To case c.in_ok-traced.traced) same (c.in_ok-traced.ensures.by_table its.basis its.of)),
    )

-- ---- an error

pub returns-in_err-traced-clause-question : goal.returns-in_err-traced-clause-question
returns-in_err-traced-clause-question c = λ not_asked.
    let p = err_from_is_err_and c.from_residual.result c.from_residual.ensures.1 in
    rw (p.1, p.2) (same_error c.in_err-traced.field-0.0 BadQuestion (c.in_err-traced.ensures.question not_asked))

pub returns-in_err-traced-clause-refused : goal.returns-in_err-traced-clause-refused
returns-in_err-traced-clause-refused c =
    let p = err_from_is_err_and c.from_residual.result c.from_residual.ensures.1 in
    rw (p.1, p.2) c.in_err-traced.ensures.refused

pub returns-in_err-keep_hoped-in-Reached-clause-question : goal.returns-in_err-keep_hoped-in-Reached-clause-question
returns-in_err-keep_hoped-in-Reached-clause-question c = λ not_asked. absurd (not_asked c.in_ok-traced.ensures.asked)

pub returns-in_err-keep_hoped-in-Reached-clause-refused : goal.returns-in_err-keep_hoped-in-Reached-clause-refused
returns-in_err-keep_hoped-in-Reached-clause-refused c =
    let p = err_from_is_err_and c.from_residual-in_err-keep_hoped-in-Reached.result c.from_residual-in_err-keep_hoped-in-Reached.ensures.1 in
    rw (p.1, p.2) (inl refl)

pub returns-in_err-keep_hoped-in-Reached-clause-hoped : goal.returns-in_err-keep_hoped-in-Reached-clause-hoped
returns-in_err-keep_hoped-in-Reached-clause-hoped c =
    subst (λ (each : CaseContents). AreHopedWays each c.keep_hoped.new.hoped.items)
    (c.case-case.ensures ∙ c.in_ok-traced.ensures.same) c.in_err-keep_hoped-in-Reached.ensures

pub returns-in_err-lines-in-Reached-clause-question : goal.returns-in_err-lines-in-Reached-clause-question
returns-in_err-lines-in-Reached-clause-question c = λ not_asked. absurd (not_asked c.in_ok-traced.ensures.asked)

pub returns-in_err-lines-in-Reached-clause-refused : goal.returns-in_err-lines-in-Reached-clause-refused
returns-in_err-lines-in-Reached-clause-refused c =
    let p = err_from_is_err_and c.from_residual-in_err-lines-in-Reached.result c.from_residual-in_err-lines-in-Reached.ensures.1 in
    rw (p.1, p.2) (inl refl)

pub returns-in_err-lines-in-Reached-clause-hoped : goal.returns-in_err-lines-in-Reached-clause-hoped
returns-in_err-lines-in-Reached-clause-hoped c =
    subst (λ (each : CaseContents). AreHopedWays each c.keep_hoped.new.hoped.items)
    (c.case-case.ensures ∙ c.in_ok-traced.ensures.same) c.in_ok-keep_hoped-in-Reached.ensures

pub returns-in_err-lines-in-Stopped-clause-question : goal.returns-in_err-lines-in-Stopped-clause-question
returns-in_err-lines-in-Stopped-clause-question c = λ not_asked. absurd (not_asked c.in_ok-traced.ensures.asked)

pub returns-in_err-lines-in-Stopped-clause-refused : goal.returns-in_err-lines-in-Stopped-clause-refused
returns-in_err-lines-in-Stopped-clause-refused c =
    let p = err_from_is_err_and c.from_residual-in_err-lines-in-Stopped.result c.from_residual-in_err-lines-in-Stopped.ensures.1 in
    rw (p.1, p.2) (inl refl)

-- ---- an outcome

pub returns-in_ok-lines-in-Reached-clause-derived : goal.returns-in_ok-lines-in-Reached-clause-derived
returns-in_ok-lines-in-Reached-clause-derived c = λ basis is.
    let same = case_is c.case-case.ensures c.in_ok-traced.ensures.same in
    let there : IsCaseOf basis c.case-case.result.now = subst (λ (each : CaseContents). IsCaseOf basis each) same is in
    let report = c.in-Reached.judged.report in
    let Its : Traced → Type 0 = λ each. IsTrace basis c.args.name.now c.args.rtype.0 each in (
      subst Its c.in-Reached.is (c.in_ok-traced.ensures.trace basis is),
      derivation_by basis c.case-case.result.now there report.links c.in_ok-lines-in-Reached.lines.items c.args.rtype.0 report.last
          report.verdict c.in_ok-lines-in-Reached.ensures,
    )

pub returns-in_ok-lines-in-Reached-clause-question : goal.returns-in_ok-lines-in-Reached-clause-question
returns-in_ok-lines-in-Reached-clause-question c = λ not_asked. absurd (not_asked c.in_ok-traced.ensures.asked)

pub returns-in_ok-lines-in-Reached-clause-hoped : goal.returns-in_ok-lines-in-Reached-clause-hoped
returns-in_ok-lines-in-Reached-clause-hoped c =
    subst (λ (each : CaseContents). AreHopedWays each c.keep_hoped.new.hoped.items)
    (c.case-case.ensures ∙ c.in_ok-traced.ensures.same) c.in_ok-keep_hoped-in-Reached.ensures

pub returns-in_ok-lines-in-Stopped-clause-derived : goal.returns-in_ok-lines-in-Stopped-clause-derived
returns-in_ok-lines-in-Stopped-clause-derived c = λ basis is.
    let same = case_is c.case-case.ensures c.in_ok-traced.ensures.same in
    let there : IsCaseOf basis c.case-case.result.now = subst (λ (each : CaseContents). IsCaseOf basis each) same is in
    let stopped = c.in-Stopped.stopped in
    let Its : Traced → Type 0 = λ each. IsTrace basis c.args.name.now c.args.rtype.0 each in
    stop_derived basis c.case-case.result.now there c.args.name.now c.args.rtype.0 stopped.links stopped.alias stopped.error
    c.in_ok-lines-in-Stopped.lines.items (subst Its c.in-Stopped.is (c.in_ok-traced.ensures.trace basis is))
    c.in_ok-lines-in-Stopped.ensures

pub returns-in_ok-lines-in-Stopped-clause-question : goal.returns-in_ok-lines-in-Stopped-clause-question
returns-in_ok-lines-in-Stopped-clause-question c = λ not_asked. absurd (not_asked c.in_ok-traced.ensures.asked)
