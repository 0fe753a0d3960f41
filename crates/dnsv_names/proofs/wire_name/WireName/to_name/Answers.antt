use Rattle.std.proofs.Common.{List, ℕ, sym, ap, ◌∙◌, subst}
use Rattle.dnsv_names.specs.Name.Spelling.{labels_of, SpellsName}
use Rattle.dnsv_names.proofs.NameLemmas.{length_spelled}
use Rattle.dnsv_names.proofs.wire_name.WireName.to_name.Goals as goal

pub copied-requires : goal.copied-requires
copied-requires c = length_spelled c.self.inside.octets.now c.self.invariant

pub invariant_of-result : goal.invariant_of-result
invariant_of-result c = subst (λ (octets : List ℕ). SpellsName octets) (sym c.copied.ensures) c.self.invariant

pub returns : goal.returns
returns c = ap labels_of c.copied.ensures ∙ c.self.view_is
