use Rattle.std.proofs.Common.{◌∙◌, sym, subst, map}
use Rattle.std.specs.List.{enumerate_from}
use Rattle.dnsv_canonical.specs.Index.Grouping.{IsFound, group_of}
use Rattle.dnsv_canonical.proofs.IndexLemmas.Search.{found_numbers, no_numbers}
use Rattle.dnsv_canonical.proofs.IndexLemmas.Layout.{mapped_group}
use Rattle.dnsv_canonical.proofs.capture.index.Index.at.Goals as goal

pub returns-in-Ok : goal.returns-in-Ok
returns-in-Ok c =
    let all = enumerate_from 1 c.args.rrsets.now in
    let found = subst (IsFound c.requires.firsts (c.args.name.now, c.args.rtype.0)) c.in-Ok.is (c.find.ensures.found c.requires) in
    c.group.ensures (map (group_of all) c.requires.firsts) c.requires.laid (group_of all found.0) (mapped_group all c.requires.firsts c.in-Ok.place found.0 found.1)
    ∙ found_numbers c.args.rrsets.now c.args.name.now c.args.rtype.0 found.0 found.2

pub returns-in-Err : goal.returns-in-Err
returns-in-Err c =
    sym (no_numbers c.args.rrsets.now c.args.self.now.numbers.items c.args.self.now.starts.items c.requires c.args.name.now c.args.rtype.0 _ (subst (IsFound c.requires.firsts (c.args.name.now, c.args.rtype.0)) c.in-Err.is (c.find.ensures.found c.requires)))
