use Rattle.std.proofs.Common.{◌≡◌, ap, ◌∙◌, map}
use Rattle.std.specs.Char.{to_ascii_lowercase}
use Rattle.dnsv_names.specs.Name.{wire, lower_case}
use Rattle.dnsv_names.specs.Name.Spelling.{labels_of}
use Rattle.dnsv_names.specs.Name.WireLaws.{IsName-lower_case, lower_case-wire, labels_of-wire}
use Rattle.dnsv_names.proofs.NameLemmas.{SpellsName-wire}
use Rattle.dnsv_names.proofs.name.Name.to_lower.Goals as goal

spelled : (c : goal.After-lowered) → c.lowered.result.items ≡ wire (lower_case (labels_of c.self.inside.octets.items))
spelled c = c.lowered.ensures ∙ ap (map to_ascii_lowercase) (c.as_slice.ensures.value ∙ c.self.invariant.whole) ∙ lower_case-wire _ c.self.invariant.name.each

pub invariant_of-result : goal.invariant_of-result
invariant_of-result c = SpellsName-wire _ _ (IsName-lower_case _ c.self.invariant.name) (spelled c)

pub returns : goal.returns
returns c = ap labels_of (spelled c) ∙ labels_of-wire _ (IsName-lower_case _ c.self.invariant.name).each ∙ ap lower_case c.self.view_is
