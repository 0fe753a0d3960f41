use Rattle.std.proofs.Common.{List, [], length, map, sym, ap, ◌∙◌, subst, ℕ}
use Rattle.std.specs.List.{AllZip}
use Rattle.dnsv_canonical.proofs.OrderLemmas.{zip_length}
use Rattle.dnsv_verifier.specs.Admissible.{DnskeyRecord}
use Rattle.dnsv_verifier.specs.Asking.{AddsJust, ComesOfSome, IsEntryOfMade, IsMadeAt, MadeSignature}
use Rattle.dnsv_verifier.specs.Numbers.{IsPartNumber, entry_of}
use Rattle.dnsv_verifier.proofs.EntryLemmas.{just_asked}
use Rattle.dnsv_verifier.proofs.ask.asked_entries.Goals as goal

pub places_of-requires-clause-numbers : goal.places_of-requires-clause-numbers
places_of-requires-clause-numbers c =
    sym (zip_length (IsMadeAt c.args.rrsets.now) c.in_ok-made.made.numbers.items c.in_ok-made.made.signatures.items c.in_ok-made.ensures.numbers)

pub places_of-requires-clause-found : goal.places_of-requires-clause-found
places_of-requires-clause-found c =
    ap (λ (found : List ℕ). length found) c.as_slice-2.ensures.value
    ∙ sym (zip_length (IsPartNumber c.in_ok-parts.parts) c.as_slice-signatures.result.now c.in_ok-found.found.items c.in_ok-found.ensures)
    ∙ ap (λ (made : List MadeSignature). length made) c.as_slice-signatures.ensures.value
    ∙ sym (zip_length (IsMadeAt c.args.rrsets.now) c.in_ok-made.made.numbers.items c.in_ok-made.made.signatures.items c.in_ok-made.ensures.numbers)

pub entry_numbers-requires-clause-found : goal.entry_numbers-requires-clause-found
entry_numbers-requires-clause-found c =
    subst (λ (found : List ℕ). AllZip (IsPartNumber c.in_ok-parts.parts) c.as_slice-signatures.result.now found) (sym c.as_slice-4.ensures.value) c.in_ok-found.ensures

pub returns-clause-rising : goal.returns-clause-rising
returns-clause-rising c = record {
  keys = c.in_ok-parts.ensures.rising.0;
  signatures = c.in_ok-parts.ensures.rising.1;
  within = c.in_ok-numbers.ensures.all;
  rising = c.in_ok-numbers.ensures.rising;
}

pub returns-clause-places : goal.returns-clause-places
returns-clause-places c =
    c.in_ok-places.ensures c.args.rrsets.now c.in_ok-parts.parts c.in_ok-made.ensures.numbers
    (subst (λ (found : List ℕ). AllZip (IsPartNumber c.in_ok-parts.parts) c.in_ok-made.made.signatures.items found) (sym c.as_slice-2.ensures.value)
    (subst (λ (made : List MadeSignature). AllZip (IsPartNumber c.in_ok-parts.parts) made c.in_ok-found.found.items) c.as_slice-signatures.ensures.value
    c.in_ok-found.ensures))

pub returns-clause-asked : goal.returns-clause-asked
returns-clause-asked c =
    let entries = map (entry_of c.in_ok-parts.parts) c.in_ok-numbers.numbers.items in
    let by_made = subst (λ (mades : List MadeSignature). AddsJust (ComesOfSome (IsEntryOfMade c.as_slice-3.result.now) mades) [] entries) c.as_slice-signatures.ensures.value c.in_ok-numbers.ensures.adds in
    let adds = subst (λ (keys : List DnskeyRecord). AddsJust (ComesOfSome (IsEntryOfMade keys) c.in_ok-made.made.signatures.items) [] entries) c.as_slice-3.ensures by_made in
    just_asked c.args.range.from c.args.range.to c.args.rrsets.now c.in_ok-keys.keys c.in_ok-keys.ensures c.in_ok-made.made.signatures.items c.in_ok-made.ensures.adds entries adds
