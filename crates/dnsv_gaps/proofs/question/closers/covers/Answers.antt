use Rattle.std.proofs.Common.{List, arith, subst, sym, ◌+◌}
use Rattle.dnsv_canonical.specs.declared.number.RecordNumber.{RecordNumber}
use Rattle.dnsv_canonical.proofs.OrderLemmas.{each_member}
use Rattle.std.specs.List.{AllByRecursion, Contains}
use Rattle.dnsv_chain.specs.Basis.{basis_by}
use Rattle.dnsv_gaps.specs.Asking.{asking}
use Rattle.dnsv_gaps.specs.Parts.{IsInEvidence}
use Rattle.dnsv_gaps.specs.SourceSearch.{AreHeldSources, zone_in}
use Rattle.dnsv_gaps.specs.questions.Closers.{IsCover}
use Rattle.dnsv_gaps.proofs.QuestionLemmas.CloserLemmas.{facts_same, no_facts}
use Rattle.dnsv_gaps.proofs.QuestionLemmas.SayingLemmas.{absent_by_held, absent_by_some, absent_number}
use Rattle.dnsv_names.specs.Name.{rightmost}
use Rattle.dnsv_gaps.proofs.question.closers.covers.Goals as goal

pub returns-then-labels-zone : goal.returns-then-labels-zone
returns-then-labels-zone c =
    no_facts (basis_by c.args.question.now.facts.now) (IsCover (asking c.args.question.now) c.args.zone.now.labels c.args.labels) c.new.result.items
    c.new.ensures.items (λ n is. let within = is.within in let more = c.if-labels-zone.true in absurd (omega (arith, within, more)))

pub facts_of_numbers-requires : goal.facts_of_numbers-requires
facts_of_numbers-requires c =
    let question = c.args.question.now in
    subst (λ (numbers : List RecordNumber). AllByRecursion (IsInEvidence question.facts.now.rrsets) numbers) (sym c.deref-2.ensures.value)
    (each_member (IsInEvidence question.facts.now.rrsets) c.in_ok-numbers.numbers.items (λ n there.
    let said = absent_by_some question c.args.zone.now.labels (c.args.labels + 1) c.deref.result.now
    (subst (AreHeldSources question c.args.zone.now.labels) (sym c.deref.ensures.value) c.in_ok-sources.ensures) n
    ((c.in_ok-numbers.ensures.members n).0 there) in
    absent_number (asking question) (zone_in question c.args.zone.now.labels) said.0 (rightmost question.name.now (c.args.labels + 1)) n said.1))

pub returns : goal.returns
returns c =
    let question = c.args.question.now in
    let zone = c.args.zone.now.labels in
    let sources = c.deref.result.now in
    let held = subst (AreHeldSources question zone) (sym c.deref.ensures.value) c.in_ok-sources.ensures in
    facts_same (basis_by question.facts.now) (Contains c.deref-2.result.now) (IsCover (asking question) zone c.args.labels) _
    (λ n. (
      λ there.
          let said = absent_by_some question zone (c.args.labels + 1) sources held n
          ((c.in_ok-numbers.ensures.members n).0 (subst (λ (each : List RecordNumber). Contains each n) c.deref-2.ensures.value there)) in
          record { within = c.if-labels-zone.false; chain = said.0; covers = said.1 },
      λ is. subst (λ (each : List RecordNumber). Contains each n) (sym c.deref-2.ensures.value)
          ((c.in_ok-numbers.ensures.members n).1 (absent_by_held question zone (c.args.labels + 1) sources held n is.chain is.covers)),
    ))
    c.in_ok-facts_of_numbers.ensures
