use Rattle.std.proofs.Common.{List, [], map, sym, subst}
use Rattle.std.proofs.lemmas.Result.{IfOk-weaker}
use Rattle.dnsv_canonical.proofs.OrderLemmas.{zip_length}
use Rattle.dnsv_verifier.specs.Asking.{AddsJust, CanSign, ComesOfSome, GivesEach, IsAny, IsEntryOfMade, NumberedName}
use Rattle.dnsv_verifier.specs.Numbers.{AllOfParts, IsNumberedKey, IsNumberedSignature, IsPartNumber, entry_of}
use Rattle.dnsv_verifier.proofs.NumberedLemmas.{entries_of_pairs, pairs_of_parts}
use Rattle.dnsv_verifier.proofs.ask.numbers.entry_numbers.Goals as goal

pub numbered_signatures-requires : goal.numbered_signatures-requires
numbered_signatures-requires c = sym (zip_length (IsPartNumber c.args.parts.now) c.args.made.now c.args.found.now c.requires.found)

pub returns-clause-adds : goal.returns-clause-adds
returns-clause-adds c =
    let parts = c.args.parts.now in
    let of_keys = subst (λ (numbered : List NumberedName). GivesEach (IsNumberedKey parts) CanSign c.args.keys.now numbered) (sym c.as_slice.ensures.value) c.in_ok-keys.ensures in
    let of_made = subst (λ (numbered : List NumberedName). GivesEach (IsNumberedSignature parts) IsAny c.args.made.now numbered) (sym c.as_slice-2.ensures.value) (c.in_ok-signatures.ensures.are parts c.requires.found) in
    IfOk-weaker c.pairs.result _ (λ numbers. AddsJust (ComesOfSome (IsEntryOfMade c.args.keys.now) c.args.made.now) [] (map (entry_of parts) numbers.items))
    (λ numbers adds. entries_of_pairs parts c.args.keys.now c.args.made.now c.as_slice.result.now c.as_slice-2.result.now of_keys of_made numbers.items adds)
    c.pairs.ensures.adds

pub returns-clause-all : goal.returns-clause-all
returns-clause-all c =
    let parts = c.args.parts.now in
    let of_keys = subst (λ (numbered : List NumberedName). GivesEach (IsNumberedKey parts) CanSign c.args.keys.now numbered) (sym c.as_slice.ensures.value) c.in_ok-keys.ensures in
    let of_made = subst (λ (numbered : List NumberedName). GivesEach (IsNumberedSignature parts) IsAny c.args.made.now numbered) (sym c.as_slice-2.ensures.value) (c.in_ok-signatures.ensures.are parts c.requires.found) in
    IfOk-weaker c.pairs.result _ (λ numbers. AllOfParts parts numbers.items)
    (λ numbers adds. pairs_of_parts parts c.args.keys.now c.args.made.now c.as_slice.result.now c.as_slice-2.result.now of_keys of_made numbers.items adds)
    c.pairs.ensures.adds
