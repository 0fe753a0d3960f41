use Rattle.std.proofs.Common.{ap, ◌∙◌}
use Rattle.dnsv_names.specs.Name.{same_name}
use Rattle.dnsv_names.specs.Name.Spelling.{labels_of}
use Rattle.dnsv_names.specs.Name.WireLaws.{labels_of-wire}
use Rattle.dnsv_names.proofs.NameLemmas.{SpellsName-wire, same_name_from_wire}
use Rattle.dnsv_names.proofs.wire_name.WireName.is_same.Goals as goal

pub returns : goal.returns
returns c =
    same_name_from_wire c.self.inside.octets.now c.wire.result.now c.eq_ignore_ascii_case.result c.self.invariant
    (SpellsName-wire c.args.name.now c.wire.result.now c.wire.ensures.name c.wire.ensures.octets) c.eq_ignore_ascii_case.ensures.test
    ∙ ap (λ name. same_name name (labels_of c.wire.result.now)) c.self.view_is
    ∙ ap (λ name. same_name c.args.self.now name) (ap labels_of c.wire.ensures.octets ∙ labels_of-wire c.args.name.now c.wire.ensures.name.each)
