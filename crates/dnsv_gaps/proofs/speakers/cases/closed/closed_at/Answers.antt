use Rattle.std.proofs.Common.{arith, ℕ, List, refl, subst, sym, ◌∙◌}
use Rattle.std.specs.Prelude.{Contains}
use Rattle.dnsv_gaps.proofs.CaseLemmas.{first_closed, none_closed}
use Rattle.dnsv_gaps.proofs.SayingLemmas.{zone}
use Rattle.dnsv_gaps.proofs.speakers.cases.closed.closed_at.Goals as goal

pub returns-in_default : goal.returns-in_default
returns-in_default c =
    let question = c.args.question.now in
    let source = c.args.source.now in
    let is = c.requires.source in
    none_closed question source is c.args.labels c.in_ok-places.places.items (c.in_ok-places.ensures.all (zone question source is))
    (sym c.deref.ensures.value ∙ c.in_default.ensures)

pub closed_record-requires-clause-place : goal.closed_record-requires-clause-place
closed_record-requires-clause-place c =
    c.in_ok-places.ensures.within c.in-Some.place
    (subst (λ (ps : List ℕ). Contains ps c.in-Some.place) (sym c.in-Some.ensures.1 ∙ c.deref.ensures.value) (0, omega arith, refl))

pub returns : goal.returns
returns c =
    let question = c.args.question.now in
    let source = c.args.source.now in
    let is = c.requires.source in
    first_closed question source is c.args.labels c.in_ok-places.places.items (c.in_ok-places.ensures.all (zone question source is))
    c.in-Some.place c.in-Some.ensures.0 (sym c.deref.ensures.value ∙ c.in-Some.ensures.1) c.in_ok-facts.facts c.in_ok-facts.ensures
