use Rattle.std.proofs.Common.{ap, ◌∙◌}
use Rattle.dnsv_names.specs.Name.{Labels, wire}
use Rattle.dnsv_tsig.proofs.KeyNamesLemmas.{name_more}
use Rattle.dnsv_tsig.proofs.key_names.add_name.Goals as goal

pub returns : goal.returns
returns c =
    name_more c.args.names.now c.insert.new.self c.in_ok-octets.octets c.args.name.now
    (c.in_ok-octets.ensures.items ∙ c.wire.ensures.octets ∙ ap (λ (name : Labels). wire name) c.to_lower-lower.ensures)
    c.in_ok-insert.ensures.keys
