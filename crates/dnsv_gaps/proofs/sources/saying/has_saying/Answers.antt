use Rattle.std.proofs.Common.{ℕ, List, subst, sym}
use Rattle.std.specs.Prelude.{Contains}
use Rattle.dnsv_gaps.proofs.SayingLemmas.{has_one, zone}
use Rattle.dnsv_gaps.proofs.sources.saying.has_saying.Goals as goal

pub returns : goal.returns
returns c =
    let question = c.args.question.now in
    let source = c.args.source.now in
    let same = has_one question source c.requires.source c.args.asked c.args.word c.in_ok-places.places.items
    (c.in_ok-places.ensures.all (zone question source c.requires.source)) in
    let Some : List ℕ → Type 0 = λ ps. (place : ℕ) × Contains ps place in (
      λ yes. same.0 (subst Some c.deref.ensures.value (c.has_any.ensures.0 yes)),
      λ has. c.has_any.ensures.1 (subst Some (sym c.deref.ensures.value) (same.1 has)),
    )
