use Rattle.dnsv_holding.proofs.lemmas.telling.TellLemmas.{name_there, no_name_added, no_name_shown}
use Rattle.dnsv_holding.proofs.told.add_no_name.Goals as goal

pub returns-in_default : goal.returns-in_default
returns-in_default c =
    absurd (c.in_default.ensures.first
    (name_there c.args.at.now.case.now c.args.evidence.now c.requires.at.evidence c.requires.at.trust c.in_ok-view.view c.args.at.now.name.now c.in_ok-view.ensures c.requires.proved))

pub add_denial-requires : goal.add_denial-requires
add_denial-requires c =
    no_name_shown c.args.at.now.case.now c.args.evidence.now c.requires.at.evidence c.requires.at.trust c.in_ok-view.view c.args.at.now.name.now c.in_ok-view.ensures c.in-Some.shown c.in-Some.ensures.first

pub returns : goal.returns
returns c =
    no_name_added c.args.at.now.case.now c.args.evidence.now c.requires.at.evidence c.requires.at.trust c.in_ok-view.view c.args.at.now.name.now c.in_ok-view.ensures c.in-Some.shown _ _ c.in-Some.ensures.first c.in_ok-add_denial.ensures
