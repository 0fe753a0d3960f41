use Rattle.dnsv_holding.proofs.lemmas.telling.TellLemmas.{covered_there, its_secured, open_added, open_shown, open_there}
use Rattle.dnsv_holding.proofs.wildcard_cut.add_wildcard_cut.Goals as goal

pub returns-in_default : goal.returns-in_default
returns-in_default c =
    absurd (open_there c.args.at.now.case.now c.args.evidence.now c.requires.at.evidence c.requires.at.trust c.args.view.now
    c.args.at.now.name.now c.requires.view c.args.rtype.0
    c.requires.none c.requires.unsigned c.in_default.ensures)

pub returns-in_default-shown_loose_closer : goal.returns-in_default-shown_loose_closer
returns-in_default-shown_loose_closer c =
    let found = c.in-Some.found in
    absurd ((rw c.to_name.ensures at c.in_default-shown_loose_closer.ensures)
    (covered_there c.args.at.now.case.now c.args.evidence.now c.requires.at.evidence c.requires.at.trust c.args.view.now
    c.args.at.now.name.now c.requires.view c.args.rtype.0
    found.rrset found.signature c.in-Some.ensures.0 found.rrsig.now c.in-Some.ensures.1))

pub add_derivation-requires : goal.add_derivation-requires
add_derivation-requires c =
    let found = c.in-Some.found in
    its_secured c.args.at.now.case.now c.args.evidence.now c.requires.at.evidence c.requires.at.trust c.args.view.now
    c.args.at.now.name.now c.requires.view c.args.rtype.0
    found.rrset found.signature c.in-Some.ensures.0 found.rrsig.now c.in-Some.ensures.1

pub add_denial-requires : goal.add_denial-requires
add_denial-requires c =
    let found = c.in-Some.found in
    open_shown c.args.at.now.case.now c.args.evidence.now c.requires.at.evidence c.requires.at.trust c.args.view.now
    c.args.at.now.name.now c.requires.view c.args.rtype.0
    found.rrset found.signature c.in-Some.ensures.0 found.rrsig.now c.in-Some.ensures.1 c.in-Some-shown_loose_closer.shown
    (rw c.to_name.ensures at c.in-Some-shown_loose_closer.ensures)

pub returns : goal.returns
returns c =
    let found = c.in-Some.found in
    open_added c.args.at.now.case.now c.args.evidence.now c.requires.at.evidence c.requires.at.trust c.args.view.now
    c.args.at.now.name.now c.requires.view c.args.rtype.0
    found.rrset found.signature c.in-Some.ensures.0 found.rrsig.now c.in-Some.ensures.1 c.in-Some-shown_loose_closer.shown
    c.args.lines.now.items _ _ (rw c.to_name.ensures at c.in-Some-shown_loose_closer.ensures) c.requires.none
    c.in_ok-add_derivation.ensures c.in_ok-add_denial.ensures
