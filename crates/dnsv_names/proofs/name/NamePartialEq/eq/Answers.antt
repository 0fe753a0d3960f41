use Rattle.std.proofs.Common.{◌≡◌, ap, ◌∙◌, map}
use Rattle.std.specs.Bool.{Decides}
use Rattle.std.specs.Char.{to_ascii_lowercase}
use Rattle.dnsv_names.specs.Name.{same_name}
use Rattle.dnsv_names.specs.Name.Spelling.{labels_of}
use Rattle.dnsv_names.specs.Order.OrderLaws.{same_name_Decides}
use Rattle.dnsv_names.proofs.NameLemmas.{same_name_from_wire}
use Rattle.dnsv_names.proofs.name.NamePartialEq.eq.Goals as goal

pub returns-clause-value : goal.returns-clause-value
returns-clause-value c =
    let decides : Decides c.eq_ignore_ascii_case.result (map to_ascii_lowercase c.self.inside.octets.items ≡ map to_ascii_lowercase c.other.inside.octets.items) =
    rw (← c.as_slice.ensures.value, ← c.as_slice-2.ensures.value) c.eq_ignore_ascii_case.ensures.test in
    same_name_from_wire c.self.inside.octets.items c.other.inside.octets.items c.eq_ignore_ascii_case.result c.self.invariant c.other.invariant decides
    ∙ ap (λ name. same_name name (labels_of c.other.inside.octets.items)) c.self.view_is ∙ ap (λ name. same_name c.args.self.now name) c.other.view_is

pub returns-clause-same : goal.returns-clause-same
returns-clause-same c = rw (returns-clause-value c) (same_name_Decides c.args.self.now c.args.other.now)
