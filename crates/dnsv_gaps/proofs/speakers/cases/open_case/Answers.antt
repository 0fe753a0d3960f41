use Rattle.std.proofs.Common.{◌≡◌, subst, sym, arith, ◌∙◌}
use Rattle.std.proofs.lemmas.Bool.{false≢true}
use Rattle.dnsv_names.specs.Name.{Labels, rightmost}
use Rattle.dnsv_names.specs.Tree.AncestorLaws.{rightmost_all}
use Rattle.dnsv_chain.specs.Basis.{basis_by}
use Rattle.dnsv_gaps.specs.Cases.{AreRecordsAt, HasOne, IsAt}
use Rattle.dnsv_gaps.specs.Parts.{AreFactsOf}
use Rattle.dnsv_gaps.specs.SourceSearch.{said_in}
use Rattle.dnsv_gaps.proofs.CaseLemmas.{apex_same, not_apex}
use Rattle.dnsv_gaps.proofs.speakers.cases.open_case.Goals as goal

pub returns-then-is_there : goal.returns-then-is_there
returns-then-is_there c =
    let name = c.args.question.now.name.now in
    let said = said_in c.args.question.now c.args.source.now in
    let same : rightmost name c.labels.result ≡ name = rightmost_all name c.labels.result (omega (arith, c.labels.ensures.count)) in (
      c.requires.before,
      subst (λ (y : Labels). HasOne (IsAt said y)) same (c.in_ok-is_there.ensures.0 c.if-is_there.true),
      subst (λ (y : Labels). AreRecordsAt (basis_by c.args.question.now.facts.now) said y c.args.question.now.rtype.0 c.in_ok-records.records) same
          c.in_ok-records.ensures,
    )

pub returns-then-is_apex : goal.returns-then-is_apex
returns-then-is_apex c =
    let name = c.args.question.now.name.now in
    let said = said_in c.args.question.now c.args.source.now in
    let same : rightmost name c.labels.result ≡ name = rightmost_all name c.labels.result (omega (arith, c.labels.ensures.count)) in (
      c.requires.before,
      λ n at. false≢true (sym c.if-is_there.false
          ∙ c.in_ok-is_there.ensures.1 (n, subst (λ (y : Labels). IsAt said y n) (sym same) at)),
      apex_same name c.args.source.now.labels (c.is_apex.ensures.0 c.if-is_apex.true),
    )

pub returns-then-is_empty : goal.returns-then-is_empty
returns-then-is_empty c =
    let name = c.args.question.now.name.now in
    let said = said_in c.args.question.now c.args.source.now in
    let same : rightmost name c.labels.result ≡ name = rightmost_all name c.labels.result (omega (arith, c.labels.ensures.count)) in (
      c.requires.before,
      λ n at. false≢true (sym c.if-is_there.false
          ∙ c.in_ok-is_there.ensures.1 (n, subst (λ (y : Labels). IsAt said y n) (sym same) at)),
      not_apex name c.args.source.now.labels c.requires.source.within
          (λ all. false≢true (sym c.if-is_apex.false ∙ c.is_apex.ensures.1 all)),
      subst (λ (y : Labels). HasOne (said.EmptyNonTerminal y)) same (c.in_ok-is_empty.ensures.0 c.if-is_empty.true),
      subst (λ (y : Labels). AreFactsOf (basis_by c.args.question.now.facts.now) (said.EmptyNonTerminal y) c.in_ok-rrsets.rrsets.items) same
          c.in_ok-rrsets.ensures,
    )

pub encloser_case-requires-clause-before : goal.encloser_case-requires-clause-before
encloser_case-requires-clause-before c =
    let name = c.args.question.now.name.now in
    let said = said_in c.args.question.now c.args.source.now in
    let same : rightmost name c.labels.result ≡ name = rightmost_all name c.labels.result (omega (arith, c.labels.ensures.count)) in record {
      open_above = c.requires.before;
      unmatched = λ n at. false≢true (sym c.if-is_there.false
          ∙ c.in_ok-is_there.ensures.1 (n, subst (λ (y : Labels). IsAt said y n) (sym same) at));
      below = not_apex name c.args.source.now.labels c.requires.source.within
          (λ all. false≢true (sym c.if-is_apex.false ∙ c.is_apex.ensures.1 all));
      not_empty = λ n is. false≢true (sym c.if-is_empty.false
          ∙ c.in_ok-is_empty.ensures.1 (n, subst (λ (y : Labels). said.EmptyNonTerminal y n) (sym same) is));
    }
