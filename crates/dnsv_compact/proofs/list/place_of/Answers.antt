use Rattle.dnsv_compact.proofs.PlaceLemmas.{lowest_of}
use Rattle.dnsv_compact.proofs.list.place_of.Goals as goal

pub unreachable-requires : goal.unreachable-requires
unreachable-requires c = let (each, there, asked) = c.requires.given in c.in_default.ensures each there asked

pub returns : goal.returns
returns c = λ from to rrsets are. record {
  key = c.number_of.ensures;
  signature = lowest_of from to rrsets c.args.signed.now are c.args.entry.now c.in-Some.found.now c.requires.given c.in-Some.ensures;
}
