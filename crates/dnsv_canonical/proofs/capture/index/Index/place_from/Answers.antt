use Rattle.std.proofs.Common.{◌≡◌, ◌∙◌, sym, subst, ap, arith}
use Rattle.dnsv_canonical.specs.Index.Grouping.{IsPlaceBehind, Key, key_cmp, key_of}
use Rattle.dnsv_canonical.proofs.IndexLemmas.Growth.{is_greater, place_from_all, place_here, place_past}
use Rattle.dnsv_canonical.proofs.IndexLemmas.Layout.{length-firsts}
use Rattle.dnsv_canonical.proofs.IndexLemmas.Search.{greater_from}
use Rattle.dnsv_canonical.proofs.capture.index.Index.place_from.Goals as goal

pub returns-then-from-groups-clause-parted : goal.returns-then-from-groups-clause-parted
returns-then-from-groups-clause-parted c = λ index.
    let count = length-firsts c.args.rrsets.now c.args.self.now.numbers.items c.args.self.now.starts.items index in
    place_past index.firsts (key_of c.args.rrset.now) c.args.from c.len-groups.result
    (omega (arith, count, c.if-from-groups.true, c.len-groups.ensures, c.args.self.now.starts.ok.0)) (omega (arith, count, c.len-groups.ensures, c.args.self.now.starts.ok.0))

pub returns-then-is_gt-clause-parted : goal.returns-then-is_gt-clause-parted
returns-then-is_gt-clause-parted c = λ index.
    let key : (c.owner.result.now, c.rtype.result.0) ≡ key_of c.args.rrset.now = λ i. (c.owner.ensures i, c.rtype.ensures i) in
    place_here index.firsts (key_of c.args.rrset.now) c.args.from
    (greater_from (key_of c.args.rrset.now) index.firsts c.args.from c.first.result.now index.are.rising (c.first.ensures index)
    (ap (key_cmp (key_of c.first.result.now)) (sym key) ∙ sym c.compared.ensures ∙ is_greater c.compared.result (sym c.is_gt.ensures ∙ c.if-is_gt.true)))

pub returns-clause-parted : goal.returns-clause-parted
returns-clause-parted c = λ index.
    let key : (c.owner-2.result.now, c.rtype-2.result.0) ≡ key_of c.args.rrset.now = λ i. (c.owner-2.ensures i, c.rtype-2.ensures i) in
    place_from_all index.firsts (key_of c.args.rrset.now) c.args.from c.place_behind.result (subst (λ (k : Key). IsPlaceBehind index.firsts k c.place_behind.result) key (c.place_behind.ensures.parted index))
