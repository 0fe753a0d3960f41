use Rattle.std.proofs.Common.{ℕ, sym, ap, ◌==◌, ◌∙◌}
use Rattle.std.proofs.lemmas.Bool.{false≢true}
use Rattle.dnsv_names.specs.Name.{rightmost}
use Rattle.dnsv_chain.specs.Basis.{basis_by}
use Rattle.dnsv_gaps.specs.Asking.{asking}
use Rattle.dnsv_gaps.specs.SourceSearch.{said_in, zone_in}
use Rattle.dnsv_gaps.proofs.QuestionLemmas.CutCaseLemmas.{none_of_facts, one_of_facts, opt_out_by_chain}
use Rattle.dnsv_gaps.proofs.question.cuts.case.uncovered_case.Goals as goal

pub returns-then-not-is_empty : goal.returns-then-not-is_empty
returns-then-not-is_empty c =
    let question = c.args.question.now in
    let cut = rightmost question.name.now c.args.name in
    let test = c.is_empty.ensures ∙ ap (λ (n : ℕ). n == 0) c.in_ok-covers.covers.ok.0 in (
      c.requires.none,
      one_of_facts (basis_by question.facts.now) ((said_in question c.args.source.now).OptedOut cut) c.in_ok-covers.covers.items c.is_empty.result
          c.in_ok-covers.ensures test c.if-not-is_empty.true,
      c.in_ok-shown.ensures,
      c.in_ok-covers.ensures,
    )

pub returns-then-is_opt_out_source : goal.returns-then-is_opt_out_source
returns-then-is_opt_out_source c =
    let question = c.args.question.now in
    let source = c.args.source.now in
    let cut = rightmost question.name.now c.args.name in
    let test = c.is_empty.ensures ∙ ap (λ (n : ℕ). n == 0) c.in_ok-covers.covers.ok.0 in (
      c.requires.none,
      none_of_facts (basis_by question.facts.now) ((said_in question source).OptedOut cut) c.in_ok-covers.covers.items c.is_empty.result
          c.in_ok-covers.ensures test c.if-not-is_empty.false,
      (opt_out_by_chain (asking question) (zone_in question source.labels) source.records c.requires.source.its).0
          (c.is_opt_out_source.ensures.0 c.if-is_opt_out_source.true),
    )

pub returns : goal.returns
returns c =
    let question = c.args.question.now in
    let source = c.args.source.now in
    let cut = rightmost question.name.now c.args.name in
    let test = c.is_empty.ensures ∙ ap (λ (n : ℕ). n == 0) c.in_ok-covers.covers.ok.0 in (
      c.requires.none,
      none_of_facts (basis_by question.facts.now) ((said_in question source).OptedOut cut) c.in_ok-covers.covers.items c.is_empty.result
          c.in_ok-covers.ensures test c.if-not-is_empty.false,
      λ has. false≢true (sym c.if-is_opt_out_source.false ∙ c.is_opt_out_source.ensures.1
          ((opt_out_by_chain (asking question) (zone_in question source.labels) source.records c.requires.source.its).1 has)),
    )
