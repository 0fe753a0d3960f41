use Rattle.dnsv_holding.proofs.lemmas.telling.TellLemmas.{data_there, no_data_added, no_data_shown}
use Rattle.dnsv_holding.proofs.told.add_no_data.Goals as goal

pub returns-in_default : goal.returns-in_default
returns-in_default c =
    absurd (c.in_default.ensures.first
    (data_there c.args.at.now.case.now c.args.evidence.now c.requires.at.evidence c.requires.at.trust c.in_ok-view.view c.args.at.now.name.now c.in_ok-view.ensures c.args.rtype.0 c.requires.proved))

pub add_denial-requires : goal.add_denial-requires
add_denial-requires c =
    no_data_shown c.args.at.now.case.now c.args.evidence.now c.requires.at.evidence c.requires.at.trust c.in_ok-view.view c.args.at.now.name.now c.in_ok-view.ensures c.args.rtype.0 c.in-Some.shown c.in-Some.ensures.first

pub returns : goal.returns
returns c =
    no_data_added c.args.at.now.case.now c.args.evidence.now c.requires.at.evidence c.requires.at.trust c.in_ok-view.view c.args.at.now.name.now c.in_ok-view.ensures c.args.rtype.0 c.in-Some.shown _ _ c.in-Some.ensures.first
    c.in_ok-add_denial.ensures
