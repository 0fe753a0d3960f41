use Rattle.std.proofs.Common.{List, sym, ap, ◌∙◌, subst, rules}
use Rattle.std.proofs.lemmas.Fn.{always_returns_same}
use Rattle.std.proofs.lemmas.List.{map-id}
use Rattle.std.specs.List.{Contains}
use Rattle.std.specs.List.Sorted.{IsStrictlySortedBy}
use Rattle.dnsv_verifier.specs.Numbers.{PartLists, key_cmp, key_of}
use Rattle.dnsv_verifier.specs.declared.entry.parts.KeyPart.{KeyPart}
use Rattle.dnsv_verifier.proofs.NumberLemmas.{key_cmp_total, key_found}
use Rattle.dnsv_verifier.proofs.SearchLemmas.{not_missed}
use Rattle.dnsv_verifier.proofs.entry.parts.Parts.find_key.Goals as goal

pub returns-in-Ok : goal.returns-in-Ok
returns-in-Ok c =
    let asked : KeyPart = record { algorithm = c.args.algorithm; key = c.args.key.now } in
    let position = c.in-Ok.ensures.position (λ part. key_cmp part asked) (always_returns_same _ _ _ (λ a r f called. search rules)) in
    (search rules, ap (λ (parts : PartLists). key_of parts c.in-Ok.place) (sym c.self.view_is) ∙ key_found c.self.inside.keys.now asked c.in-Ok.place _ position)

pub returns-in-Err : goal.returns-in-Err
returns-in-Err c = λ among.
    let asked : KeyPart = record { algorithm = c.args.algorithm; key = c.args.key.now } in
    let keys = c.self.inside.keys.now in
    let position = c.in-Err.ensures.position (λ part. key_cmp part asked) (always_returns_same _ _ _ (λ a r f called. search rules)) in
    let listed = subst (λ (parts : PartLists). Contains parts.keys asked) (sym c.self.view_is) among in
    not_missed key_cmp key_cmp_total (λ part. part) keys (subst (IsStrictlySortedBy key_cmp) (sym (map-id keys)) c.self.invariant.0) asked
    (subst (λ (parts : List KeyPart). Contains parts asked) (sym (map-id keys)) listed) c.in-Err.field-0 position
