use Rattle.std.proofs.Common.{List, sym, ap, ◌∙◌, subst, rules}
use Rattle.std.proofs.lemmas.Fn.{always_returns_same}
use Rattle.std.proofs.lemmas.List.{map-id}
use Rattle.std.specs.List.{Contains}
use Rattle.std.specs.List.Sorted.{IsStrictlySortedBy}
use Rattle.dnsv_verifier.specs.Numbers.{PartLists, signature_cmp, signature_of}
use Rattle.dnsv_verifier.specs.declared.entry.parts.SignaturePart.{SignaturePart}
use Rattle.dnsv_verifier.proofs.NumberLemmas.{signature_cmp_total, signature_found}
use Rattle.dnsv_verifier.proofs.SearchLemmas.{not_missed}
use Rattle.dnsv_verifier.proofs.entry.parts.Parts.find_signature.Goals as goal

pub returns-in-Ok : goal.returns-in-Ok
returns-in-Ok c =
    let asked : SignaturePart = record { signed_data = c.args.signed_data.now; signature = c.args.signature.now } in
    let position = c.in-Ok.ensures.position (λ part. signature_cmp part asked) (always_returns_same _ _ _ (λ a r f called. search rules)) in
    (search rules, ap (λ (parts : PartLists). signature_of parts c.in-Ok.place) (sym c.self.view_is) ∙ signature_found c.self.inside.signatures.now asked c.in-Ok.place _ position)

pub returns-in-Err : goal.returns-in-Err
returns-in-Err c = λ among.
    let asked : SignaturePart = record { signed_data = c.args.signed_data.now; signature = c.args.signature.now } in
    let signatures = c.self.inside.signatures.now in
    let position = c.in-Err.ensures.position (λ part. signature_cmp part asked) (always_returns_same _ _ _ (λ a r f called. search rules)) in
    let listed = subst (λ (parts : PartLists). Contains parts.signatures asked) (sym c.self.view_is) among in
    not_missed signature_cmp signature_cmp_total (λ part. part) signatures (subst (IsStrictlySortedBy signature_cmp) (sym (map-id signatures)) c.self.invariant.1) asked
    (subst (λ (parts : List SignaturePart). Contains parts asked) (sym (map-id signatures)) listed) c.in-Err.field-0 position
