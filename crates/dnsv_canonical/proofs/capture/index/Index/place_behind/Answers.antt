use Rattle.std.proofs.Common.{subst, arith}
use Rattle.dnsv_canonical.specs.Index.Grouping.{IsFound}
use Rattle.dnsv_canonical.proofs.IndexLemmas.Layout.{length-firsts}
use Rattle.dnsv_canonical.proofs.IndexLemmas.InOrder.{place_at_tie, place_between}
use Rattle.dnsv_canonical.proofs.capture.index.Index.place_behind.Goals as goal

pub returns-in-Ok-clause-parted : goal.returns-in-Ok-clause-parted
returns-in-Ok-clause-parted c = λ index.
    place_at_tie (c.args.name.now, c.args.rtype.0) index.firsts c.in-Ok.place index.are.rising (subst (IsFound index.firsts (c.args.name.now, c.args.rtype.0)) c.in-Ok.is (c.find.ensures.found index))

pub returns-in-Err-clause-parted : goal.returns-in-Err-clause-parted
returns-in-Err-clause-parted c = λ index.
    place_between (c.args.name.now, c.args.rtype.0) index.firsts c.in-Err.place (subst (IsFound index.firsts (c.args.name.now, c.args.rtype.0)) c.in-Err.is (c.find.ensures.found index))

pub returns-in-Err-clause-within : goal.returns-in-Err-clause-within
returns-in-Err-clause-within c =
    let found = subst (IsFound c.requires.firsts (c.args.name.now, c.args.rtype.0)) c.in-Err.is (c.find.ensures.found c.requires) in
    omega (arith, found.0, length-firsts c.args.rrsets.now c.args.self.now.numbers.items c.args.self.now.starts.items c.requires)
