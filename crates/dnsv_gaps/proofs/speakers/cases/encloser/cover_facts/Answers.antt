use Rattle.std.proofs.Common.{◌⊎◌, ◌+◌, inl, inr, ⊎_elim, sym, ◌∙◌}
use Rattle.std.proofs.lemmas.Bool.{false≢true}
use Rattle.dnsv_names.specs.Name.{rightmost}
use Rattle.dnsv_chain.specs.Basis.{basis_by}
use Rattle.dnsv_gaps.specs.Cases.{HasNone, IsBestCover}
use Rattle.dnsv_gaps.specs.SourceSearch.{said_in}
use Rattle.dnsv_gaps.proofs.QuestionLemmas.CloserLemmas.{facts_same}
use Rattle.dnsv_gaps.proofs.speakers.cases.encloser.cover_facts.Goals as goal

pub returns-then-is_absent : goal.returns-then-is_absent
returns-then-is_absent c =
    let question = c.args.question.now in
    let words = said_in question c.args.source.now in
    let next = rightmost question.name.now (c.args.labels + 1) in
    let some = c.in_ok-is_absent.ensures.0 c.if-is_absent.true in
    facts_same (basis_by question.facts.now) (words.Absent next) (IsBestCover words next) c.in_ok-firm.firm.items
    (λ n. (
      λ absent. inl absent,
      λ best. ⊎_elim (λ (absent : words.Absent next n). absent)
          (λ (open_out : HasNone (words.Absent next) × words.OptedOut next n). absurd (open_out.0 some.0 some.1)) best,
    )) c.in_ok-firm.ensures

pub returns : goal.returns
returns c =
    let question = c.args.question.now in
    let words = said_in question c.args.source.now in
    let next = rightmost question.name.now (c.args.labels + 1) in
    let none : HasNone (words.Absent next) = λ n absent. false≢true (sym c.if-is_absent.false ∙ c.in_ok-is_absent.ensures.1 (n, absent)) in
    facts_same (basis_by question.facts.now) (words.OptedOut next) (IsBestCover words next) c.in_ok-opted.opted.items
    (λ n. (
      λ opted. inr (none, opted),
      λ best. ⊎_elim (λ (absent : words.Absent next n). absurd (none n absent))
          (λ (open_out : HasNone (words.Absent next) × words.OptedOut next n). open_out.1) best,
    )) c.in_ok-opted.ensures
