use Rattle.std.proofs.Common.{[], refl}
use Rattle.dnsv_derivations.specs.Explained.{setting_in}
use Rattle.dnsv_holding.specs.Holding.{IsLinkTold}
use Rattle.dnsv_derivations.proofs.lemmas.SayingLemmas.{next_added}
use Rattle.dnsv_holding.proofs.lemmas.telling.SecureLemmas.{item_secure}
use Rattle.dnsv_holding.proofs.lemmas.telling.TellLemmas.{hashed_within, link_hashed}
use Rattle.dnsv_holding.proofs.links.add_links.Goals as goal

pub hashes_at-hashed-requires : goal.hashes_at-hashed-requires
hashes_at-hashed-requires c =
    let way = c.requires.way in
    hashed_within c.args.case.now.rrsets c.args.links.now way.last c.loop-place.place _ c.loop-place-test.true way.each_name

pub add_link-requires-clause-hashes : goal.add_link-requires-clause-hashes
add_link-requires-clause-hashes c =
    let way = c.requires.way in
    link_hashed c.args.case.now.rrsets c.args.links.now c.args.links.now way.last c.loop-place.place _
    c.hashes_at-hashed.result.now c.index-links-place.result refl c.loop-place-test.true c.index-links-place.is way.each_name
    c.hashes_at-hashed.ensures

pub add_link-requires-clause-secure : goal.add_link-requires-clause-secure
add_link-requires-clause-secure c =
    let way = c.requires.way in
    item_secure c.args.case.now c.args.evidence.now [] c.requires.evidence way.t way.name c.args.links.now c.args.links.now way.last
    c.loop-place.place c.index-links-place.result refl c.loop-place-test.true c.index-links-place.is way.leads

pub loop-place-preserved : goal.loop-place-preserved
loop-place-preserved c =
    next_added (IsLinkTold (setting_in c.args.evidence.now)) c.args.links.now c.loop-place.place c.index-links-place.result c.index-links-place.result
    c.args.lines.now.items _ _ c.loop-place-test.true c.index-links-place.is c.loop-place.invariant c.in_ok-add_link.ensures
