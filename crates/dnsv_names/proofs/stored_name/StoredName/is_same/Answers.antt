use Rattle.std.proofs.Common.{◌≡◌, ap, ◌∙◌, map}
use Rattle.std.specs.Bool.{Decides}
use Rattle.std.specs.Char.{to_ascii_lowercase}
use Rattle.dnsv_names.specs.Name.{same_name}
use Rattle.dnsv_names.specs.Name.Spelling.{labels_of}
use Rattle.dnsv_names.specs.Name.WireLaws.{labels_of-wire}
use Rattle.dnsv_names.proofs.NameLemmas.{SpellsName-wire, same_name_from_wire}
use Rattle.dnsv_names.proofs.stored_name.StoredName.is_same.Goals as goal

pub returns : goal.returns
returns c =
    let decides : Decides c.eq_ignore_ascii_case.result (map to_ascii_lowercase c.self.inside.octets.items ≡ map to_ascii_lowercase c.wire.result.now) =
    rw (← c.as_slice.ensures.value) c.eq_ignore_ascii_case.ensures.test in
    same_name_from_wire c.self.inside.octets.items c.wire.result.now c.eq_ignore_ascii_case.result c.self.invariant
    (SpellsName-wire c.args.name.now c.wire.result.now c.wire.ensures.name c.wire.ensures.octets) decides
    ∙ ap (λ name. same_name name (labels_of c.wire.result.now)) c.self.view_is
    ∙ ap (λ name. same_name c.args.self.now name) (ap labels_of c.wire.ensures.octets ∙ labels_of-wire c.args.name.now c.wire.ensures.name.each)
