use Rattle.std.proofs.Common.{ℕ, ◌≡◌, subst, sym, ◌∙◌}
use Rattle.std.proofs.lemmas.Bool.{false≢true}
use Rattle.dnsv_verifier.specs.Asking.{AddsJust}
use Rattle.dnsv_verifier.proofs.AskLemmas.{adds_nothing}
use Rattle.dnsv_faults.specs.KnownZones.KnownSearch.{IsSignerAbove}
use Rattle.dnsv_faults.proofs.lemmas.KnownLemmas.{signer_added}
use Rattle.dnsv_faults.proofs.known.speakers.add_signer.Goals as goal

pub returns-then-not-is_above : goal.returns-then-not-is_above
returns-then-not-is_above c =
    adds_nothing (IsSignerAbove c.args.name.now c.args.from_above c.args.signer.now) c.args.numbers.now.items
    (λ n is. false≢true (sym c.if-not-is_above.true ∙ c.is_above.ensures.1 is.above))

pub returns : goal.returns
returns c =
    let Adds : ℕ → Type 0 = λ k. AddsJust (λ (n : ℕ). n ≡ k) c.args.numbers.now.items c.add_number.new.numbers.items in
    signer_added c.args.name.now c.args.signer.now c.args.from_above c.args.numbers.now.items c.add_number.new.numbers.items
    (c.is_above.ensures.0 c.if-not-is_above.false) (subst Adds c.labels.ensures.count c.in_ok-add_number.ensures)
