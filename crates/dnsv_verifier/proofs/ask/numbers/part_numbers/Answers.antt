use Rattle.std.proofs.Common.{◌≡◌, [], ◌+◌, ℕ, List, sym, ap, ◌∙◌, subst, take}
use Rattle.std.proofs.lemmas.List.Elements.{Contains-get_or}
use Rattle.std.specs.List.{AllZip, Contains}
use Rattle.dnsv_verifier.specs.Asking.{MadeSignature}
use Rattle.dnsv_verifier.specs.Numbers.{IsPartNumber, signature_of}
use Rattle.dnsv_verifier.specs.declared.entry.parts.SignaturePart.{SignaturePart}
use Rattle.dnsv_verifier.proofs.PlaceLemmas.{zip_next, zip_whole}
use Rattle.dnsv_verifier.proofs.ask.numbers.part_numbers.Goals as goal

pub loop-each-init : goal.loop-each-init
loop-each-init c = subst (λ (found : List ℕ). AllZip (IsPartNumber c.args.parts.now) [] found) (sym c.in_ok-found.ensures.items) tt

pub signature_number-requires : goal.signature_number-requires
signature_number-requires c =
    let signatures = c.args.parts.now.signatures in
    let has : Contains signatures c.each-item.result.part =
    c.requires c.each-item.result
    (subst (λ (each : MadeSignature). Contains c.args.made.now each) (sym c.each-item.is)
    (Contains-get_or c.args.made.now c.loop-each.each-index c.each-item.result c.loop-each-test.true)) in
    subst (λ (part : SignaturePart). Contains signatures part) (sym (ap (λ (each : MadeSignature). each.part) c.each.view_is)) has

pub loop-each-preserved : goal.loop-each-preserved
loop-each-preserved c =
    let parts = c.args.parts.now in
    let made = c.args.made.now in
    let value : signature_of parts c.signature_number.result ≡ c.each-item.result.part = c.signature_number.ensures.value ∙ ap (λ (each : MadeSignature). each.part) c.each.view_is in
    subst (λ (found : List ℕ). AllZip (IsPartNumber parts) (take (c.loop-each.each-index + 1) made) found) (sym c.in_ok-push.ensures.items)
    (zip_next (IsPartNumber parts) made c.loop-each.found.items c.loop-each.each-index c.each-item.result c.signature_number.result c.loop-each-test.true c.each-item.is c.loop-each.invariant
    (record { value = value; within = c.signature_number.ensures.within }))

pub returns : goal.returns
returns c = zip_whole (IsPartNumber c.args.parts.now) c.args.made.now c.loop-each.found.items c.loop-each.each-index c.loop-each-test.false c.loop-each.invariant
