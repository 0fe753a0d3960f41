use Rattle.std.proofs.Common.{get_or, sym}
use Rattle.std.proofs.lemmas.Option.{MatchOption-at_none}
use Rattle.dnsv_derivations.specs.Explained.{setting_in}
use Rattle.dnsv_derivations.proofs.lemmas.IndexLemmas.{same_numbers}
use Rattle.dnsv_derivations.proofs.lemmas.NumberedLemmas.{in_list}
use Rattle.dnsv_derivations.proofs.lemmas.derivations.WayLemmas.DelegationLemmas.{delegation_next, delegation_there, delegations_begin, delegations_end, delegations_more}
use Rattle.dnsv_derivations.proofs.derivations.ways.by_ds.way_by_ds.Goals as goal

pub loop-number-init : goal.loop-number-init
loop-number-init c =
    delegations_begin (setting_in c.args.evidence.now) c.args.set.now.number c.args.set.now.rrset.now c.requires.set.numbered
    c.at-number-items.result.now
    (same_numbers c.capture-capture.result.now.rrsets c.args.evidence.now.rrsets c.owner.result.now c.args.set.now.rrset.now.owner 43
    c.at-number-items.result.now c.at-number-items.ensures c.capture-capture.ensures c.owner.ensures)
    c.requires.before

pub way_in-requires-clause-ds : goal.way_in-requires-clause-ds
way_in-requires-clause-ds c =
    in_list c.args.evidence.now.rrsets c.rrsets-rrsets.result.now (get_or c.at-number-items.result.now c.loop-number.number-index 0)
    c.in-Some.ds.now c.rrsets-rrsets.ensures c.in-Some.ensures

pub way_in-requires-clause-before : goal.way_in-requires-clause-before
way_in-requires-clause-before c =
    delegation_next (setting_in c.args.evidence.now) c.args.set.now.number c.args.set.now.rrset.now c.requires.set.numbered
    c.at-number-items.result.now
    (same_numbers c.capture-capture.result.now.rrsets c.args.evidence.now.rrsets c.owner.result.now c.args.set.now.rrset.now.owner 43
    c.at-number-items.result.now c.at-number-items.ensures c.capture-capture.ensures c.owner.ensures)
    c.loop-number.number-index c.loop-number-test.true c.loop-number.invariant

pub loop-number-preserved : goal.loop-number-preserved
loop-number-preserved c =
    delegations_more (setting_in c.args.evidence.now) c.args.set.now.number c.args.set.now.rrset.now c.requires.set.numbered
    c.at-number-items.result.now
    (same_numbers c.capture-capture.result.now.rrsets c.args.evidence.now.rrsets c.owner.result.now c.args.set.now.rrset.now.owner 43
    c.at-number-items.result.now c.at-number-items.ensures c.capture-capture.ensures c.owner.ensures)
    c.loop-number.number-index c.loop-number-test.true (MatchOption-at_none _ _ c.in_default-2.is c.in_ok-way.ensures)

pub loop-number-preserved-in_default : goal.loop-number-preserved-in_default
loop-number-preserved-in_default c =
    absurd (delegation_there (setting_in c.args.evidence.now) c.args.set.now.number c.args.set.now.rrset.now c.requires.set.numbered
    c.at-number-items.result.now
    (same_numbers c.capture-capture.result.now.rrsets c.args.evidence.now.rrsets c.owner.result.now c.args.set.now.rrset.now.owner 43
    c.at-number-items.result.now c.at-number-items.ensures c.capture-capture.ensures c.owner.ensures)
    c.loop-number.number-index c.loop-number-test.true
    (λ each numbered. c.in_default.ensures each
    (in_list c.rrsets-rrsets.result.now c.args.evidence.now.rrsets (get_or c.at-number-items.result.now c.loop-number.number-index 0)
    each (sym c.rrsets-rrsets.ensures) numbered)))

pub returns : goal.returns
returns c =
    delegations_end (setting_in c.args.evidence.now) c.args.set.now.number c.args.set.now.rrset.now c.requires.set.numbered
    c.at-number-items.result.now
    (same_numbers c.capture-capture.result.now.rrsets c.args.evidence.now.rrsets c.owner.result.now c.args.set.now.rrset.now.owner 43
    c.at-number-items.result.now c.at-number-items.ensures c.capture-capture.ensures c.owner.ensures)
    c.loop-number.number-index c.loop-number-test.false c.loop-number.invariant
