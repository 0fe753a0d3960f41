use Rattle.std.proofs.Common.{◌≡◌, [], ◌∷◌, ◌++◌, length, ap, ◌∙◌, arith}
use Rattle.dnsv_names.specs.Name.{wire}
use Rattle.dnsv_names.proofs.TreeLemmas.{SpellsWildcard, spells_wildcard}
use Rattle.dnsv_names.proofs.name.Name.wildcard_of.Goals as goal

wildcard : (c : goal.After-unwrap-2) → SpellsWildcard c.args.self.now c.try_extend_from_slice-2.new.self.items
wildcard c =
    let star : c.try_extend_from_slice.new.self.items ≡ c.new-octets.result.items ++ 1 ∷ 42 ∷ [] = rw c.unwrap.ensures at c.try_extend_from_slice.ensures.ok in
    let whole : c.try_extend_from_slice-2.new.self.items ≡ c.try_extend_from_slice.new.self.items ++ c.wire-below.result.now = rw c.unwrap-2.ensures at c.try_extend_from_slice-2.ensures.ok in
    let form : c.try_extend_from_slice-2.new.self.items ≡ 1 ∷ 42 ∷ wire c.args.self.now =
    whole ∙ ap (λ xs. xs ++ c.wire-below.result.now) (star ∙ ap (λ xs. xs ++ 1 ∷ 42 ∷ []) c.new-octets.ensures) ∙ ap (λ xs. 1 ∷ 42 ∷ xs) c.wire-below.ensures.octets in
    spells_wildcard c.args.self.now c.try_extend_from_slice-2.new.self.items c.wire-below.ensures.name form
    (omega (arith, ap length form, ap length c.wire-below.ensures.octets))

pub invariant_of-result : goal.invariant_of-result
invariant_of-result c = (wildcard c).spells

pub returns-clause-variant : goal.returns-clause-variant
returns-clause-variant c = (wildcard c).labels

pub returns-clause-name : goal.returns-clause-name
returns-clause-name c = (wildcard c).is_name
