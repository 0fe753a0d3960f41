use Rattle.std.proofs.Common.{◌≡◌, ◌∷◌, List, ℕ, length, map, ap, ◌∙◌}
use Rattle.std.specs.Char.{to_ascii_lowercase}
use Rattle.dnsv_names.specs.Name.{Labels, IsName, wire}
use Rattle.dnsv_names.specs.Octets.{octets_cmp}
use Rattle.dnsv_names.specs.Order.ByWire.{search_octets}
use Rattle.dnsv_names.specs.Name.WireLaws.{lower_case-wire}
use Rattle.dnsv_names.proofs.wire_name.WireName.search_cmp.Goals as goal

searched : (name : Labels) (octets : List ℕ) → IsName name → octets ≡ wire name → length octets ∷ map to_ascii_lowercase octets ≡ search_octets name
searched name octets is_name form =
    ap (λ xs. length xs ∷ map to_ascii_lowercase xs) form ∙ ap (λ xs. length (wire name) ∷ xs) (lower_case-wire name is_name.each)

pub returns : goal.returns
returns c =
    c.octets_order.ensures
    ∙ (λ i. octets_cmp (searched c.args.self.now c.wire.result.now c.wire.ensures.name c.wire.ensures.octets i)
    (searched c.args.other.now c.wire-2.result.now c.wire-2.ensures.name c.wire-2.ensures.octets i))
