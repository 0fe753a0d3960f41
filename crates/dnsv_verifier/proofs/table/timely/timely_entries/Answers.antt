use Rattle.std.proofs.Common.{◌≡◌, ◌<◌, [], ◌∷◌, ◌++◌, true, false, length, get_or, map, sym, ap, ◌∙◌, arith, rules}
use Rattle.std.proofs.lemmas.List.{take_all}
use Rattle.std.proofs.lemmas.Slice.Zip.{get_or-zip, length-zip}
use Rattle.std.specs.List.{filter, zip}
use Rattle.dnsv_verifier.specs.Numbers.{entry_of, is_timely, is_timely_in}
use Rattle.dnsv_verifier.specs.declared.answer.Answer.{Answer}
use Rattle.dnsv_verifier.specs.declared.answer.Answer.TheVariants.{Valid}
use Rattle.dnsv_verifier.specs.declared.entry.parts.EntryNumbers.{EntryNumbers}
use Rattle.dnsv_verifier.proofs.TimelyLemmas.{no_more_kept, one_more_kept}
use Rattle.dnsv_verifier.proofs.table.timely.timely_entries.Goals as goal
use Rattle.dnsv_verifier.proofs.table.timely.timely_entries.Goals.{then-is_timely+in_ok-push+in_ok-push-2, else-is_timely}

pub loop-place-preserved : goal.loop-place-preserved
loop-place-preserved c =
    let first : EntryNumbers × Answer = (record { key = 0; signature = 0 }, Valid) in
    let pairs = zip c.args.numbers.now c.args.answers.now in
    let size = length-zip c.args.numbers.now c.args.answers.now in
    let here = get_or-zip c.args.numbers.now c.args.answers.now c.loop-place.place first c.loop-place-test.true (omega (arith, c.requires, c.loop-place-test.true)) in
    let within : c.loop-place.place < length pairs = omega (arith, size, c.requires, c.loop-place-test.true) in
    let stands : c.entry.result ≡ entry_of c.args.parts.now (get_or c.args.numbers.now c.loop-place.place first.0) = search rules in
    let test : c.is_timely.result ≡ is_timely_in c.args.moment c.args.parts.now (get_or pairs c.loop-place.place first) =
    c.is_timely.ensures ∙ ap (is_timely c.args.moment) stands
    ∙ ap (λ (pair : EntryNumbers × Answer). is_timely_in c.args.moment c.args.parts.now pair) (sym here) in
    elim c.if-is_timely.branch [
      | then-is_timely+in_ok-push+in_ok-push-2 w ↦
          let passes : c.is_timely.result ≡ true = search rules in
          record {
            kept = ap (λ kept. kept.items) w.kept-is ∙ w.in_ok-push.ensures.items
                ∙ (λ i. c.loop-place.invariant.kept i ++ (sym here i).0 ∷ [])
                ∙ one_more_kept (λ each. each.0) (is_timely_in c.args.moment c.args.parts.now) pairs c.loop-place.place first within (sym test ∙ passes);
            said = ap (λ said. said.items) w.said-is ∙ w.in_ok-push-2.ensures.items
                ∙ (λ i. c.loop-place.invariant.said i ++ (sym here i).1 ∷ [])
                ∙ one_more_kept (λ each. each.1) (is_timely_in c.args.moment c.args.parts.now) pairs c.loop-place.place first within (sym test ∙ passes);
          }
      | else-is_timely w ↦
          let fails : c.is_timely.result ≡ false = search rules in
          record {
            kept = ap (λ kept. kept.items) w.kept-is ∙ c.loop-place.invariant.kept
                ∙ no_more_kept (λ each. each.0) (is_timely_in c.args.moment c.args.parts.now) pairs c.loop-place.place first within (sym test ∙ fails);
            said = ap (λ said. said.items) w.said-is ∙ c.loop-place.invariant.said
                ∙ no_more_kept (λ each. each.1) (is_timely_in c.args.moment c.args.parts.now) pairs c.loop-place.place first within (sym test ∙ fails);
          }
    ]

pub returns-clause-numbers : goal.returns-clause-numbers
returns-clause-numbers c =
    let size = length-zip c.args.numbers.now c.args.answers.now in
    c.loop-place.invariant.kept ∙ ap (λ pairs. map (λ each. each.0) (filter (is_timely_in c.args.moment c.args.parts.now) pairs))
    (take_all c.loop-place.place (zip c.args.numbers.now c.args.answers.now) (omega (arith, size, c.requires, c.loop-place-test.false)))

pub returns-clause-answers : goal.returns-clause-answers
returns-clause-answers c =
    let size = length-zip c.args.numbers.now c.args.answers.now in
    c.loop-place.invariant.said ∙ ap (λ pairs. map (λ each. each.1) (filter (is_timely_in c.args.moment c.args.parts.now) pairs))
    (take_all c.loop-place.place (zip c.args.numbers.now c.args.answers.now) (omega (arith, size, c.requires, c.loop-place-test.false)))
