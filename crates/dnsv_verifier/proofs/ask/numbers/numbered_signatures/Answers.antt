use Rattle.std.proofs.Common.{[], List, get_or, sym, subst, rules}
use Rattle.std.proofs.lemmas.Fn.{always_returns_same}
use Rattle.std.proofs.lemmas.List.Sorted.{ranks_by}
use Rattle.std.specs.Ordering.{is_lt}
use Rattle.dnsv_verifier.specs.Asking.{GivesEach, IsAny, MadeSignature, NumberedName, key_name_cmp}
use Rattle.dnsv_verifier.specs.Numbers.{IsNumberedSignature, IsPartNumber}
use Rattle.dnsv_verifier.proofs.AskLemmas.{zip_at}
use Rattle.dnsv_verifier.proofs.NamedLemmas.{key_name_cmp_total}
use Rattle.dnsv_verifier.proofs.NumberedLemmas.{each_all, each_more, each_moved, each_none}
use Rattle.dnsv_verifier.proofs.ask.numbers.numbered_signatures.Goals as goal

pub loop-place-init : goal.loop-place-init
loop-place-init c = λ parts its.
    subst (λ (numbered : List NumberedName). GivesEach (IsNumberedSignature parts) IsAny [] numbered) (sym c.new-numbered.ensures.items)
    (each_none (IsNumberedSignature parts) IsAny c.args.made.now)

pub loop-place-preserved : goal.loop-place-preserved
loop-place-preserved c = λ parts its.
    let made = c.args.made.now in
    let found = c.args.found.now in
    let i = c.loop-place.place in
    let one : IsPartNumber parts c.index-made-place.result (get_or found i 0) =
    subst (λ (each : MadeSignature). IsPartNumber parts each (get_or found i 0)) (sym c.index-made-place.is)
    (zip_at (IsPartNumber parts) made found i c.index-made-place.result 0 its c.loop-place-test.true) in
    each_more (IsNumberedSignature parts) IsAny made i c.index-made-place.result _ _ c.loop-place-test.true c.index-made-place.is (c.loop-place.invariant parts its)
    (c.in_ok-add_signature.ensures parts one)

pub returns-clause-are : goal.returns-clause-are
returns-clause-are c = λ parts its.
    each_moved (IsNumberedSignature parts) IsAny c.args.made.now _ _ c.sort_by.ensures.permutation
    (each_moved (IsNumberedSignature parts) IsAny c.args.made.now _ _ c.sort_unstable_by.ensures.permutation
    (each_all (IsNumberedSignature parts) IsAny c.args.made.now c.loop-place.place _ c.loop-place-test.false (c.loop-place.invariant parts its)))

pub returns-clause-sorted : goal.returns-clause-sorted
returns-clause-sorted c =
    c.in_ok-sort_by.ensures.sorted (λ x y. is_lt (key_name_cmp x.name y.name)) (ranks_by key_name_cmp_total (λ each. each.name)) (always_returns_same _ _ _ (λ a r f called. search rules))
