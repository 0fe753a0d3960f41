use Rattle.std.proofs.Common.{List, sym, ◌∙◌, subst}
use Rattle.std.proofs.lemmas.Bool.{false≢true}
use Rattle.dnsv_mending.specs.declared.facts.keys.VoucherFacts.{VoucherFacts}
use Rattle.dnsv_mending.specs.declared.facts.signature.SignatureFacts.{SignatureFacts}
use Rattle.dnsv_verifier.specs.Asking.{AddsJust, ComesOfSome}
use Rattle.dnsv_verifier.proofs.AskLemmas.{adds_nothing, adds_same}
use Rattle.dnsv_zone_faults.specs.Groups.GroupSearch.{HasSigned, IsMatched, IsMatchedByDs}
use Rattle.dnsv_zone_faults.proofs.lemmas.zones.TrustLemmas.{signed_some, some_signed}
use Rattle.dnsv_zone_faults.proofs.zone.vouched.add_of_ds.Goals as goal

pub returns-then-not-has_signed : goal.returns-then-not-has_signed
returns-then-not-has_signed c =
    let Has : List SignatureFacts → Type 0 = HasSigned in
    adds_nothing (IsMatchedByDs c.args.ds.now) c.args.places.now.items
    (λ n is. false≢true (sym c.if-not-has_signed.true ∙ c.has_signed.ensures
    ∙ signed_some c.deref.result.now (subst Has (sym c.deref.ensures.value) is.signed)))

pub returns : goal.returns
returns c =
    let Has : List SignatureFacts → Type 0 = HasSigned in
    let signed = subst Has c.deref.ensures.value (some_signed c.deref.result.now (sym c.has_signed.ensures ∙ c.if-not-has_signed.false)) in
    let Adds : List VoucherFacts → Type 0 = λ records. AddsJust (ComesOfSome IsMatched records) c.args.places.now.items c.add_matches.new.places.items in
    adds_same (ComesOfSome IsMatched c.args.ds.now.records.items) (IsMatchedByDs c.args.ds.now) _ _ (subst Adds c.deref-2.ensures.value c.in_ok-add_matches.ensures)
    (λ n by. record { signed = signed; by = by }) (λ n is. is.by)
