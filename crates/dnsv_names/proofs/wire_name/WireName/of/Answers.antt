use Rattle.std.proofs.Common.{ap, ◌∙◌}
use Rattle.dnsv_names.specs.Name.Spelling.{labels_of}
use Rattle.dnsv_names.specs.Name.WireLaws.{labels_of-wire}
use Rattle.dnsv_names.proofs.NameLemmas.{SpellsName-wire}
use Rattle.dnsv_names.proofs.wire_name.WireName.of.Goals as goal

pub invariant_of-result : goal.invariant_of-result
invariant_of-result c = SpellsName-wire c.args.name.now _ c.wire.ensures.name c.wire.ensures.octets

pub returns : goal.returns
returns c = ap labels_of c.wire.ensures.octets ∙ labels_of-wire c.args.name.now c.wire.ensures.name.each
