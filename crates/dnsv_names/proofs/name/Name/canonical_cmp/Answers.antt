use Rattle.std.proofs.Common.{◌≡◌, ap, ◌∙◌}
use Rattle.dnsv_names.specs.Order.{canonical_cmp}
use Rattle.dnsv_names.specs.Name.Spelling.{labels_of}
use Rattle.dnsv_names.specs.Name.WireLaws.{labels_of-wire}
use Rattle.dnsv_names.proofs.NameLemmas.{SpellsName-wire}
use Rattle.dnsv_names.proofs.name.Name.canonical_cmp.Goals as goal

pub compared-requires-clause-first : goal.compared-requires-clause-first
compared-requires-clause-first c = SpellsName-wire _ _ c.wire.ensures.name c.wire.ensures.octets

pub compared-requires-clause-second : goal.compared-requires-clause-second
compared-requires-clause-second c = SpellsName-wire _ _ c.wire-2.ensures.name c.wire-2.ensures.octets

pub returns : goal.returns
returns c =
    let left : labels_of c.wire.result.now ≡ c.args.self.now = ap labels_of c.wire.ensures.octets ∙ labels_of-wire _ c.wire.ensures.name.each in
    let right : labels_of c.wire-2.result.now ≡ c.args.other.now = ap labels_of c.wire-2.ensures.octets ∙ labels_of-wire _ c.wire-2.ensures.name.each in
    c.compared.ensures ∙ ap (λ name. canonical_cmp name (labels_of c.wire-2.result.now)) left ∙ ap (canonical_cmp c.args.self.now) right
