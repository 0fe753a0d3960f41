use Rattle.std.proofs.Common.{◌≡◌, ap, ◌∙◌}
use Rattle.std.specs.List.{zip}
use Rattle.dnsv_verifier.specs.Numbers.{listed_answer}
use Rattle.dnsv_verifier.proofs.ListedLemmas.{says_listed, says_nothing}
use Rattle.dnsv_verifier.proofs.table.TableVerifier.answer.Goals as goal

pub returns-in-Some : goal.returns-in-Some
returns-in-Some c =
    let numbers : c.deref-in-Some.result.now ≡ c.self.inside.numbers.value.items = c.deref-in-Some.ensures.value ∙ ap (λ v. v.items) c.deref.ensures in
    rw (← c.self.view_is) (c.listed.ensures ∙ (λ i. listed_answer (zip (numbers i) (c.deref-in-Some-2.ensures.value i)) c.in-Some.wanted)
    ∙ says_listed c.self.inside.parts c.self.inside.numbers.value.items c.self.inside.answers.items c.self.invariant.1 c.self.invariant.0 c.args.entry.now c.in-Some.wanted c.in-Some.ensures)

pub returns-in-None : goal.returns-in-None
returns-in-None c =
    rw (← c.self.view_is) (says_nothing c.self.inside.parts c.self.inside.numbers.value.items c.self.inside.answers.items c.self.invariant.1 c.self.invariant.0 c.args.entry.now c.in-None.ensures)
