use Rattle.std.proofs.Common.{sym}
use Rattle.std.proofs.lemmas.List.{get_or_read}
use Rattle.dnsv_evidence_texts.proofs.ListingLemmas.{rrsets_listed}
use Rattle.dnsv_evidence_texts.proofs.PartLemmas.{Listed-all, Listed-next}
use Rattle.dnsv_evidence_texts.proofs.listing.push_rrsets.Goals as goal

pub loop-index-preserved : goal.loop-index-preserved
loop-index-preserved c =
    let x = c.index-rrsets-index.result in
    let added = c.in_ok-push_rrset.ensures in
    Listed-next c.loop-index.invariant x x added.0 _ _ c.loop-index-test.true
    (sym (get_or_read c.args.rrsets.now c.loop-index.index x c.loop-index-test.true c.index-rrsets-index.is x))
    added.1 added.2 added.3

pub returns : goal.returns
returns c =
    let all = Listed-all c.loop-index.invariant c.loop-index-test.false in
    (all.0, rrsets_listed 1 c.args.rrsets.now all.0 all.1, all.2)
