use Rattle.std.proofs.Common.{arith}
use Rattle.dnsv_canonical.proofs.IndexLemmas.Layout.{head_read}
use Rattle.dnsv_canonical.proofs.IndexLemmas.Search.{first_is, within_rrsets}
use Rattle.dnsv_canonical.proofs.capture.index.Index.first.Goals as goal

pub index-requires-2 : goal.index-requires-2
index-requires-2 c =
    let h = head_read c.args.rrsets.now c.args.self.now.numbers.items c.args.self.now.starts.items c.requires.index c.args.place c.index.result.now c.requires.within c.index.ensures in
    omega (arith, h.head.within, c.args.self.now.numbers.ok.0)

pub rrset_at-requires-clause-some : goal.rrset_at-requires-clause-some
rrset_at-requires-clause-some c =
    let h = head_read c.args.rrsets.now c.args.self.now.numbers.items c.args.self.now.starts.items c.requires.index c.args.place c.index.result.now c.requires.within c.index.ensures in
    omega (arith, h.numbered.0, h.head.is c.index-2.result.now, c.index-2.ensures)

pub rrset_at-requires-clause-within : goal.rrset_at-requires-clause-within
rrset_at-requires-clause-within c =
    let h = head_read c.args.rrsets.now c.args.self.now.numbers.items c.args.self.now.starts.items c.requires.index c.args.place c.index.result.now c.requires.within c.index.ensures in
    omega (arith, within_rrsets c.args.rrsets.now h.first.0 h.first.1 h.numbered, h.head.is c.index-2.result.now, c.index-2.ensures)

pub returns : goal.returns
returns c = λ index.
    let h = head_read c.args.rrsets.now c.args.self.now.numbers.items c.args.self.now.starts.items index c.args.place c.index.result.now c.requires.within c.index.ensures in
    first_is c.args.rrsets.now c.args.self.now.numbers.items index.firsts c.args.place c.index.result.now c.index-2.result.now c.rrset_at.result.now h c.index-2.ensures c.rrset_at.ensures.1
