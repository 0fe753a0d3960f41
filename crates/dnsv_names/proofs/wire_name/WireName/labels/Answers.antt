use Rattle.std.proofs.Common.{arith}
use Rattle.dnsv_names.specs.Name.WireLaws.{length-wire}
use Rattle.dnsv_names.proofs.wire_name.WireName.labels.Goals as goal

pub returns-clause-at_most_127 : goal.returns-clause-at_most_127
returns-clause-at_most_127 c = omega (arith, c.label_count.ensures, length-wire _ c.self.invariant.name.each, c.self.invariant.name.at_most_255)
