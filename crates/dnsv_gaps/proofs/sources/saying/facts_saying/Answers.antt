use Rattle.std.proofs.Common.{List, subst, sym}
use Rattle.std.specs.List.{AllByRecursion}
use Rattle.std.specs.Prelude.{Contains}
use Rattle.dnsv_canonical.specs.declared.number.RecordNumber.{RecordNumber}
use Rattle.dnsv_chain.specs.Basis.{basis_by}
use Rattle.dnsv_gaps.specs.Parts.{AreFactsOf, IsInEvidence}
use Rattle.dnsv_gaps.specs.SourceSearch.{Says}
use Rattle.dnsv_gaps.proofs.PartLemmas.{facts_as}
use Rattle.dnsv_gaps.proofs.sources.saying.facts_saying.Goals as goal

pub facts_of_numbers-requires : goal.facts_of_numbers-requires
facts_of_numbers-requires c =
    subst (AllByRecursion (IsInEvidence c.args.question.now.facts.now.rrsets)) (sym c.deref.ensures.value) c.in_ok-numbers.ensures.there

pub returns : goal.returns
returns c =
    let numbers = c.in_ok-numbers.numbers.items in
    let basis = basis_by c.args.question.now.facts.now in
    let found = c.in_ok-facts_of_numbers.field-0.items in
    facts_as basis (Contains numbers) (Says c.args.question.now c.args.source.now c.args.asked c.args.word) found
    c.in_ok-numbers.ensures.all.members
    (subst (λ (ns : List RecordNumber). AreFactsOf basis (Contains ns) found) c.deref.ensures.value c.in_ok-facts_of_numbers.ensures)
