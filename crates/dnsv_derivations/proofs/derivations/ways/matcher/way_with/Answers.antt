use Rattle.std.proofs.Common.{arith}
use Rattle.std.proofs.lemmas.Option.{MatchOption-at_none, MatchOption-at_some}
use Rattle.dnsv_derivations.specs.derivations.WaySearch.{MatchesBy}
use Rattle.dnsv_derivations.proofs.lemmas.derivations.WayLemmas.SetLemmas.{set_found, set_key_at, set_more, set_none}
use Rattle.dnsv_derivations.proofs.derivations.ways.matcher.way_with.Goals as goal

pub loop-each-init : goal.loop-each-init
loop-each-init c = λ setting is j d below within such. absurd (omega (arith, below))

pub loop-each-preserved : goal.loop-each-preserved
loop-each-preserved c = λ setting is.
    let set = c.args.set.now in
    let items = c.deref-each-items.result.now in
    let x = c.each-item.result in
    let its = set_key_at setting set is items c.deref-each-items.ensures.value (MatchesBy c.args.matcher) c.loop-each.each-index x
    c.loop-each-test.true c.each-item.is in
    set_more setting set is items c.deref-each-items.ensures.value (MatchesBy c.args.matcher) c.loop-each.each-index x
    c.loop-each-test.true c.each-item.is
    (MatchOption-at_none _ _ c.in_default.is (c.signature_where.ensures setting set.number set.rrset.now its)) (c.loop-each.invariant setting is)

pub returns-in-Some : goal.returns-in-Some
returns-in-Some c = λ setting is.
    let set = c.args.set.now in
    let items = c.deref-each-items.result.now in
    let x = c.each-item.result in
    let its = set_key_at setting set is items c.deref-each-items.ensures.value (MatchesBy c.args.matcher) c.loop-each.each-index x
    c.loop-each-test.true c.each-item.is in
    set_found setting set is items c.deref-each-items.ensures.value (MatchesBy c.args.matcher) c.loop-each.each-index x
    c.args.voucher c.key_name.result c.in-Some.signature c.loop-each-test.true c.each-item.is (c.loop-each.invariant setting is)
    c.key_name.ensures
    (MatchOption-at_some _ _ c.in-Some.signature c.in-Some.is (c.signature_where.ensures setting set.number set.rrset.now its))

pub returns : goal.returns
returns c = λ setting is.
    set_none setting c.args.set.now is c.deref-each-items.result.now c.deref-each-items.ensures.value (MatchesBy c.args.matcher)
    c.loop-each.each-index c.loop-each-test.false (c.loop-each.invariant setting is)
