use Rattle.std.proofs.Common.{◌≡◌, ◌<◌, List, [], length, get_or, map, refl, sym, ap, ◌∙◌, arith, rules, subst}
use Rattle.std.proofs.lemmas.List.{take_all}
use Rattle.std.proofs.lemmas.Slice.Zip.{get_or-zip, length-zip}
use Rattle.std.specs.List.{filter, zip}
use Rattle.dnsv_verifier.specs.Table.{is_unknown, unknown_entries}
use Rattle.dnsv_verifier.specs.declared.answer.Answer.{Answer}
use Rattle.dnsv_verifier.specs.declared.answer.Answer.TheVariants.{Unknown, Valid}
use Rattle.dnsv_verifier.specs.declared.entry.parts.EntryNumbers.{EntryNumbers}
use Rattle.dnsv_verifier.proofs.ListedLemmas.{none_unknown}
use Rattle.dnsv_verifier.proofs.NumberLemmas.{filter_answers, unknown_among}
use Rattle.dnsv_verifier.proofs.table.Table.knows_all.Goals as goal

pub returns-then-eq : goal.returns-then-eq
returns-then-eq c =
    let first : EntryNumbers × Answer = (record { key = 0; signature = 0 }, Valid) in
    let numbers = c.self.inside.numbers.value.items in
    let answers = c.self.inside.answers.items in
    let place = c.loop-answer.answer-index in
    let same = c.deref-answer-items.ensures.value in
    let says : get_or c.deref-answer-items.result.now place Valid ≡ Unknown = search rules in
    let within : place < length answers = subst (λ (xs : List Answer). place < length xs) same c.loop-answer-test.true in
    let inside : place < length numbers = omega (arith, within, c.self.invariant.1) in
    let size = length-zip numbers answers in
    let here = get_or-zip numbers answers place first inside within in
    let unknown = ap (λ (each : EntryNumbers × Answer). each.1) here ∙ ap (λ (xs : List Answer). get_or xs place Valid) (sym same) ∙ says in
    rw (← c.self.view_is) (
      λ is. absurd (cc is),
      λ none. absurd (unknown_among c.self.inside.parts (zip numbers answers) place first (omega (arith, size, within, inside)) unknown none),
    )

pub returns : goal.returns
returns c =
    let numbers = c.self.inside.numbers.value.items in
    let answers = c.self.inside.answers.items in
    let none : filter is_unknown answers ≡ [] = ap (filter is_unknown) (sym (take_all _ _ c.loop-answer-test.false ∙ c.deref-answer-items.ensures.value)) ∙ c.loop-answer.invariant in
    let listed = filter_answers c.self.inside.parts (zip numbers answers) (none_unknown numbers answers none) in
    let unknown : unknown_entries c.args.self.now ≡ [] = ap unknown_entries (sym c.self.view_is) ∙ ap (map (λ each. each.0)) listed in
    (λ _. unknown, λ _. refl)
