use Rattle.std.proofs.Common.{length, sym, ap, ◌∙◌}
use Rattle.dnsv_names.specs.Name.{wire}
use Rattle.dnsv_message.proofs.FollowLemmas.{wire_stands}
use Rattle.dnsv_message.proofs.name_ref.NameRef.of.Goals as goal

pub invariant_of-result : goal.invariant_of-result
invariant_of-result c =
    let stands = wire_stands c.wire-octets.result.now c.args.name.now c.wire-octets.ensures.octets c.wire-octets.ensures.name in
    (stands.0, ap length c.wire-octets.ensures.octets ∙ ap (λ labels. length (wire labels)) (sym stands.1))

pub returns : goal.returns
returns c = (wire_stands c.wire-octets.result.now c.args.name.now c.wire-octets.ensures.octets c.wire-octets.ensures.name).1
