use Rattle.std.proofs.Common.{◌≡◌, [], ◌∷◌, ◌++◌, false, get_or, map, sym, ap, ◌∙◌, arith, rules}
use Rattle.std.proofs.lemmas.List.{take_all}
use Rattle.std.proofs.lemmas.Slice.Zip.{get_or-zip, length-zip}
use Rattle.std.specs.List.{filter, zip}
use Rattle.dnsv_verifier.specs.Table.{is_unknown}
use Rattle.dnsv_verifier.specs.declared.answer.Answer.{Answer}
use Rattle.dnsv_verifier.specs.declared.answer.Answer.TheVariants.{Unknown, Valid}
use Rattle.dnsv_verifier.specs.declared.entry.parts.EntryNumbers.{EntryNumbers}
use Rattle.dnsv_verifier.proofs.NumberLemmas.{none_unknown_more, one_unknown_more}
use Rattle.dnsv_verifier.proofs.table.unknown_numbers.Goals as goal
use Rattle.dnsv_verifier.proofs.table.unknown_numbers.Goals.{then-eq+in_ok-push, else-eq}

pub loop-place-preserved : goal.loop-place-preserved
loop-place-preserved c =
    let first : EntryNumbers × Answer = (record { key = 0; signature = 0 }, Valid) in
    let pairs = zip c.args.numbers.now c.args.answers.now in
    let size = length-zip c.args.numbers.now c.args.answers.now in
    let here = get_or-zip c.args.numbers.now c.args.answers.now c.loop-place.place first (omega (arith, c.requires, c.loop-place-test.true)) c.loop-place-test.true in
    elim c.if-eq.branch [
      | then-eq+in_ok-push w ↦
          let says : get_or c.args.answers.now c.loop-place.place Valid ≡ Unknown = search rules in
          ap (λ unknown. unknown.items) w.unknown-is ∙ w.in_ok-push.ensures.items
          ∙ (λ i. c.loop-place.invariant i ++ (sym here i).0 ∷ [])
          ∙ one_unknown_more (λ each. each.0) pairs c.loop-place.place first (omega (arith, size, c.requires, c.loop-place-test.true)) (ap (λ (each : EntryNumbers × Answer). each.1) here ∙ says)
      | else-eq w ↦
          let known : is_unknown (get_or c.args.answers.now c.loop-place.place Valid) ≡ false = search rules in
          ap (λ unknown. unknown.items) w.unknown-is ∙ c.loop-place.invariant
          ∙ none_unknown_more (λ each. each.0) pairs c.loop-place.place first (omega (arith, size, c.requires, c.loop-place-test.true)) (ap (λ (each : EntryNumbers × Answer). is_unknown each.1) here ∙ known)
    ]

pub returns : goal.returns
returns c =
    let size = length-zip c.args.numbers.now c.args.answers.now in
    c.loop-place.invariant ∙ ap (λ pairs. map (λ each. each.0) (filter (λ each. is_unknown each.1) pairs))
    (take_all c.loop-place.place (zip c.args.numbers.now c.args.answers.now) (omega (arith, size, c.requires, c.loop-place-test.false)))
