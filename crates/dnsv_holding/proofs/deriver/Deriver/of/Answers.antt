use Rattle.dnsv_holding.proofs.lemmas.marks.HopedWayLemmas.{no_hoped_ways}
use Rattle.dnsv_holding.proofs.deriver.Deriver.of.Goals as goal

pub invariant_of-result : goal.invariant_of-result
invariant_of-result c = rw c.of.ensures (
  record { basis = c.requires.0; of = c.requires.1; ways = c.in_ok-ways.ensures.ways },
  no_hoped_ways c.args.case c.new.result.items c.new.ensures.items,
)
