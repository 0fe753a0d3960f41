use Rattle.std.proofs.Common.{ap, ◌∙◌}
use Rattle.dnsv_names.specs.Name.Spelling.{labels_of}
use Rattle.dnsv_names.specs.Order.{canonical_cmp}
use Rattle.dnsv_names.proofs.wire_name.WireName.canonical_cmp.Goals as goal

pub returns : goal.returns
returns c =
    c.compared.ensures ∙ ap (λ name. canonical_cmp name (labels_of c.other.inside.octets.now)) c.self.view_is ∙ ap (λ name. canonical_cmp c.args.self.now name) c.other.view_is
