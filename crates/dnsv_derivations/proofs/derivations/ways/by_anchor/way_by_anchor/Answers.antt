use Rattle.std.proofs.lemmas.Option.{MatchOption-at_none, MatchOption-at_some}
use Rattle.std.proofs.Common.{◌+◌}
use Rattle.dnsv_derivations.specs.Explained.{setting_in}
use Rattle.dnsv_derivations.proofs.lemmas.NumberedLemmas.{all_passed, numbered_at}
use Rattle.dnsv_derivations.proofs.lemmas.derivations.WayLemmas.FirstLemmas.{found_first}
use Rattle.dnsv_derivations.proofs.lemmas.derivations.WayLemmas.RankLemmas.{anchor_told, anchors_begin, anchors_end, none_there}
use Rattle.dnsv_derivations.proofs.derivations.ways.by_anchor.way_by_anchor.Goals as goal

pub loop-place-init : goal.loop-place-init
loop-place-init c = anchors_begin (setting_in c.args.evidence.now) c.args.set.now.number

pub loop-place-preserved : goal.loop-place-preserved
loop-place-preserved c =
    none_there (setting_in c.args.evidence.now) c.args.set.now.number c.args.set.now.rrset.now c.requires.numbered 0 (c.loop-place.place + 1)
    c.voucher_of-voucher.result _
    (anchor_told (setting_in c.args.evidence.now) (c.loop-place.place + 1) c.anchor-item.result c.voucher_of-voucher.result
    (numbered_at c.args.evidence.now.anchors c.anchors-anchor-items.result.now c.loop-place.place c.anchor-item.result
    c.anchors-anchor-items.ensures c.loop-place-test.true c.anchor-item.is) c.voucher_of-voucher.ensures)
    (MatchOption-at_none _ _ c.in_default.is (c.way_with.ensures (setting_in c.args.evidence.now) c.requires)) c.loop-place.invariant

pub returns-in-Some : goal.returns-in-Some
returns-in-Some c =
    found_first (setting_in c.args.evidence.now) c.args.set.now.number c.args.set.now.rrset.now c.requires.numbered 0 (c.loop-place.place + 1)
    c.voucher_of-voucher.result _ c.in-Some.way
    (anchor_told (setting_in c.args.evidence.now) (c.loop-place.place + 1) c.anchor-item.result c.voucher_of-voucher.result
    (numbered_at c.args.evidence.now.anchors c.anchors-anchor-items.result.now c.loop-place.place c.anchor-item.result
    c.anchors-anchor-items.ensures c.loop-place-test.true c.anchor-item.is) c.voucher_of-voucher.ensures)
    c.loop-place.invariant (MatchOption-at_some _ _ c.in-Some.way c.in-Some.is (c.way_with.ensures (setting_in c.args.evidence.now) c.requires))

pub returns : goal.returns
returns c =
    anchors_end (setting_in c.args.evidence.now) c.args.set.now.number c.loop-place.place
    (all_passed c.args.evidence.now.anchors c.anchors-anchor-items.result.now c.loop-place.place c.anchors-anchor-items.ensures c.loop-place-test.false) c.loop-place.invariant
