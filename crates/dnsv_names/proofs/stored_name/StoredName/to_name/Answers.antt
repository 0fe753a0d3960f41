use Rattle.std.proofs.Common.{◌≤◌, List, ℕ, length, sym, ap, ◌∙◌, subst}
use Rattle.dnsv_names.specs.Name.Spelling.{labels_of, SpellsName}
use Rattle.dnsv_names.proofs.NameLemmas.{length_spelled}
use Rattle.dnsv_names.proofs.stored_name.StoredName.to_name.Goals as goal

pub copied-requires : goal.copied-requires
copied-requires c = subst (λ (octets : List ℕ). length octets ≤ 255) (sym c.deref.ensures.value) (length_spelled c.self.inside.octets.items c.self.invariant)

pub invariant_of-result : goal.invariant_of-result
invariant_of-result c = subst (λ (octets : List ℕ). SpellsName octets) (sym (c.copied.ensures ∙ c.deref.ensures.value)) c.self.invariant

pub returns : goal.returns
returns c = ap labels_of (c.copied.ensures ∙ c.deref.ensures.value) ∙ c.self.view_is
