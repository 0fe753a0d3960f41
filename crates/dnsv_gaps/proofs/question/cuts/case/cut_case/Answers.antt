use Rattle.std.proofs.Common.{ℕ, ap, ◌==◌, ◌∙◌}
use Rattle.dnsv_names.specs.Name.{rightmost}
use Rattle.dnsv_chain.specs.Basis.{basis_by}
use Rattle.dnsv_gaps.specs.SourceSearch.{said_in, zone_in}
use Rattle.dnsv_gaps.specs.questions.Cuts.{IsUnsignedAt}
use Rattle.dnsv_gaps.proofs.QuestionLemmas.CutCaseLemmas.{lowest_there, none_of_facts, none_there, one_of_facts}
use Rattle.dnsv_gaps.proofs.question.cuts.case.cut_case.Goals as goal

pub uncovered_case-requires-clause-none : goal.uncovered_case-requires-clause-none
uncovered_case-requires-clause-none c =
    let question = c.args.question.now in
    let source = c.args.source.now in
    none_there question source c.requires.source c.args.name c.in_ok-at.at.items c.is_empty.result
    (c.in_ok-at.ensures.all (zone_in question source.labels)) (c.is_empty.ensures ∙ ap (λ (n : ℕ). n == 0) c.in_ok-at.at.ok.0)
    c.if-is_empty.true

pub returns-then-not-is_empty : goal.returns-then-not-is_empty
returns-then-not-is_empty c =
    let question = c.args.question.now in
    let cut = rightmost question.name.now c.args.name in (
      one_of_facts (basis_by question.facts.now) (IsUnsignedAt (said_in question c.args.source.now) cut) c.in_ok-rrsets.rrsets.items c.is_empty-2.result
          c.in_ok-rrsets.ensures (c.is_empty-2.ensures ∙ ap (λ (n : ℕ). n == 0) c.in_ok-rrsets.rrsets.ok.0) c.if-not-is_empty.true,
      c.in_ok-rrsets.ensures,
    )

pub lowest_case-requires-clause-lowest : goal.lowest_case-requires-clause-lowest
lowest_case-requires-clause-lowest c =
    let question = c.args.question.now in
    let source = c.args.source.now in
    lowest_there question source c.requires.source c.args.name c.in_ok-at.at.items c.is_empty.result c.index.result.now
    (c.in_ok-at.ensures.all (zone_in question source.labels)) c.in_ok-at.ensures.within
    (c.is_empty.ensures ∙ ap (λ (n : ℕ). n == 0) c.in_ok-at.at.ok.0) c.if-is_empty.false c.index.ensures

pub lowest_case-requires-clause-none : goal.lowest_case-requires-clause-none
lowest_case-requires-clause-none c =
    let question = c.args.question.now in
    let cut = rightmost question.name.now c.args.name in
    none_of_facts (basis_by question.facts.now) (IsUnsignedAt (said_in question c.args.source.now) cut) c.in_ok-rrsets.rrsets.items c.is_empty-2.result
    c.in_ok-rrsets.ensures (c.is_empty-2.ensures ∙ ap (λ (n : ℕ). n == 0) c.in_ok-rrsets.rrsets.ok.0) c.if-not-is_empty.false
