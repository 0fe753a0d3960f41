use Rattle.std.proofs.Common.{List, subst, sym, ◌∙◌}
use Rattle.std.proofs.lemmas.Bool.{false≢true}
use Rattle.dnsv_names.specs.Name.{Labels, rightmost}
use Rattle.dnsv_proof_forms.specs.words.ChainSaid.{chain_said}
use Rattle.dnsv_chain.specs.Basis.{basis_by}
use Rattle.dnsv_mending.specs.declared.facts.signature.RrsetFacts.{RrsetFacts}
use Rattle.dnsv_gaps.specs.Cases.{AreShowing}
use Rattle.dnsv_gaps.specs.Cases.AreShowing.{by_records, needless}
use Rattle.dnsv_gaps.specs.SourceSearch.{said_in}
use Rattle.dnsv_gaps.proofs.SayingLemmas.{all_alike}
use Rattle.dnsv_gaps.proofs.speakers.cases.encloser.showing.Goals as goal

pub returns-then-needs_none : goal.returns-then-needs_none
returns-then-needs_none c =
    let question = c.args.question.now in
    let source = c.args.source.now in
    let name = rightmost question.name.now c.args.labels in
    let Of : Labels → Type 0 = λ apex. (chain_said apex source.records).NeedsNone name in
    let need = subst Of c.suffix-zone.ensures.labels (c.needs_none.ensures.0 c.if-needs_none.true) in
    subst (λ (facts : List RrsetFacts). AreShowing (basis_by question.facts.now) (said_in question source) name facts) (sym c.new.ensures.items)
    (needless ((all_alike question source c.requires.source).needs_to name need))

pub returns : goal.returns
returns c =
    let question = c.args.question.now in
    let source = c.args.source.now in
    let name = rightmost question.name.now c.args.labels in
    let Of : Labels → Type 0 = λ apex. (chain_said apex source.records).NeedsNone name in
    by_records
    (λ need. false≢true (sym c.if-needs_none.false
    ∙ c.needs_none.ensures.1 (subst Of (sym c.suffix-zone.ensures.labels) ((all_alike question source c.requires.source).needs_from name need))))
    c.in_ok-facts_saying.ensures
