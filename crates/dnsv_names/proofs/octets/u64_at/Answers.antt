use Rattle.std.proofs.Common.{◌∙◌}
use Rattle.dnsv_names.specs.Octets.OctetLaws.{number_of_rest}
use Rattle.dnsv_names.proofs.octets.u64_at.Goals as goal

pub returns : goal.returns
returns c = c.read_u64.ensures ∙ number_of_rest c.args.octets.now c.args.place 8 c.requires
