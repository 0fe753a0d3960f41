use Rattle.std.proofs.Common.{◌+◌, [], ◌∷◌, ℕ, List, map, take, sym, ap, ◌∙◌, subst}
use Rattle.std.proofs.lemmas.List.{map-append}
use Rattle.dnsv_canonical.specs.Rrsets.{IsNumbered, ReceivedRrset}
use Rattle.dnsv_verifier.proofs.PlaceLemmas.{numbered_here}
use Rattle.dnsv_verifier.specs.Table.{table_answer}
use Rattle.dnsv_anchors.specs.ByOwner.{values_at}
use Rattle.dnsv_chain.specs.Kept.{AreSigned}
use Rattle.dnsv_chain.specs.Signing.{AreGoodNumbers}
use Rattle.dnsv_chain.proofs.ZipLemmas.{zip_more}
use Rattle.dnsv_chain.proofs.trust.good_numbers_of_each.Goals as goal

pub good_numbers-requires : goal.good_numbers-requires
good_numbers-requires c =
    subst (λ (rrsets : List ReceivedRrset). IsNumbered rrsets (c.loop-place.place + 1) c.index-rrsets-place.result) (c.rrsets-rrsets.ensures.value ∙ c.capture.ensures)
    (numbered_here c.rrsets-rrsets.result.now c.loop-place.place c.index-rrsets-place.result c.loop-place-test.true c.index-rrsets-place.is)

pub loop-place-preserved : goal.loop-place-preserved
loop-place-preserved c =
    let table = c.args.table.now in
    let rrsets : List ReceivedRrset = c.rrsets-rrsets.result.now in
    let i : ℕ = c.loop-place.place in
    let keys = values_at c.args.keys.now in
    subst (λ (signed : List (List ℕ)). AreSigned (table_answer table) table.moment (take (i + 1) rrsets) keys signed)
    (sym (ap (map (λ v. v.items)) c.in_ok-push.ensures.items ∙ map-append (λ v. v.items) c.loop-place.signed.items (c.in_ok-good_numbers.field-0 ∷ [])))
    (zip_more (λ (rrset : ReceivedRrset) (numbers : List ℕ). AreGoodNumbers (table_answer table) table.moment rrset keys numbers) rrsets (map (λ v. v.items) c.loop-place.signed.items) i c.index-rrsets-place.result c.in_ok-good_numbers.field-0.items c.loop-place-test.true c.index-rrsets-place.is c.loop-place.invariant c.in_ok-good_numbers.ensures)
