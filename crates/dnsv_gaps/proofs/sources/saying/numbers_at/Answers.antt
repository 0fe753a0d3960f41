use Rattle.std.proofs.Common.{◌≡◌, ◌+◌, ◌<◌, ℕ, List, [], ◌∷◌, ◌++◌, get_or, map, take, sym, ap, ◌∙◌}
use Rattle.std.proofs.lemmas.List.{map-append, take_all, take_more}
use Rattle.std.proofs.lemmas.List.Elements.{Contains-get_or}
use Rattle.dnsv_canonical.proofs.OrderLemmas.{each_of}
use Rattle.dnsv_canonical.specs.declared.number.RecordNumber.{RecordNumber}
use Rattle.dnsv_proof_forms.specs.records.Numbers.{number_at, numbers_of, record_count}
use Rattle.dnsv_gaps.proofs.sources.saying.numbers_at.Goals as goal

pub number-requires : goal.number-requires
number-requires c =
    each_of (λ (place : ℕ). place < record_count c.args.records.now) c.args.places.now _ c.requires
    (Contains-get_or c.args.places.now c.loop-place.place-index 0 c.loop-place-test.true)

pub loop-place-preserved : goal.loop-place-preserved
loop-place-preserved c =
    let places = c.args.places.now in
    let at : ℕ → RecordNumber = number_at (numbers_of c.args.records.now) in
    let i = c.loop-place.place-index in
    let item : ℕ = get_or places i 0 in
    let front : take (i + 1) places ≡ take i places ++ item ∷ [] = take_more places i 0 c.loop-place-test.true in
    c.in_ok-push.ensures.items ∙ ap (λ (n : RecordNumber). c.loop-place.numbers.items ++ n ∷ []) c.number.ensures
    ∙ ap (λ (ns : List RecordNumber). ns ++ at item ∷ []) c.loop-place.invariant
    ∙ sym (ap (map at) front ∙ map-append at (take i places) (item ∷ []))

pub returns : goal.returns
returns c =
    c.loop-place.invariant
    ∙ ap (map (number_at (numbers_of c.args.records.now))) (take_all c.loop-place.place-index c.args.places.now c.loop-place-test.false)
