use Rattle.std.proofs.Common.{subst, sym}
use Rattle.dnsv_verdict.specs.Verdict.{IsSettledAsBy}
use Rattle.dnsv_verdict.specs.declared.verdict.Verdict.{Verdict}
use Rattle.dnsv_derivations.specs.Explained.{setting_in}
use Rattle.dnsv_holding.specs.Explained.{basis_in}
use Rattle.dnsv_holding.specs.Holding.{IsSettledTold}
use Rattle.dnsv_derivations.specs.Saying.{Adds}
use Rattle.dnsv_holding.proofs.lemmas.telling.SecureLemmas.{alias_secure, answer_secure, data_proved, name_proved, unsigned_of}
use Rattle.dnsv_holding.proofs.lemmas.telling.TellLemmas.{cut_added, cut_shown_by}
use Rattle.dnsv_holding.proofs.told.add_settled.Goals as goal

pub add_set-requires-clause-secure : goal.add_set-requires-clause-secure
add_set-requires-clause-secure c =
    let Is : Verdict → Type 0 = λ each. IsSettledAsBy (basis_in c.args.evidence.now) c.args.at.now.name.now c.args.rtype.0 each in
    answer_secure c.args.evidence.now c.args.at.now.name.now c.args.rtype.0 _ _ (subst Is c.in-SecureAnswer.is c.requires.verdict)

pub add_set-requires-in-SecureAlias-clause-secure : goal.add_set-requires-in-SecureAlias-clause-secure
add_set-requires-in-SecureAlias-clause-secure c =
    let Is : Verdict → Type 0 = λ each. IsSettledAsBy (basis_in c.args.evidence.now) c.args.at.now.name.now c.args.rtype.0 each in
    alias_secure c.args.evidence.now c.args.at.now.name.now c.args.rtype.0 _ _ (subst Is c.in-SecureAlias.is c.requires.verdict)

pub add_no_name-requires-clause-proved : goal.add_no_name-requires-clause-proved
add_no_name-requires-clause-proved c =
    let Is : Verdict → Type 0 = λ each. IsSettledAsBy (basis_in c.args.evidence.now) c.args.at.now.name.now c.args.rtype.0 each in
    name_proved c.args.evidence.now c.args.at.now.name.now c.args.rtype.0 _ (subst Is c.in-SecureNoName.is c.requires.verdict)

pub add_no_data-requires-clause-proved : goal.add_no_data-requires-clause-proved
add_no_data-requires-clause-proved c =
    let Is : Verdict → Type 0 = λ each. IsSettledAsBy (basis_in c.args.evidence.now) c.args.at.now.name.now c.args.rtype.0 each in
    data_proved c.args.evidence.now c.args.at.now.name.now c.args.rtype.0 _ (subst Is c.in-SecureNoData.is c.requires.verdict)

pub add_wildcard_cut-requires-clause-unsigned : goal.add_wildcard_cut-requires-clause-unsigned
add_wildcard_cut-requires-clause-unsigned c =
    let Is : Verdict → Type 0 = λ each. IsSettledAsBy (basis_in c.args.evidence.now) c.args.at.now.name.now c.args.rtype.0 each in
    unsigned_of c.args.evidence.now c.args.at.now.name.now c.args.rtype.0 _ (subst Is c.in-Insecure.is c.requires.verdict).4

pub add_cut-requires : goal.add_cut-requires
add_cut-requires c =
    cut_shown_by c.args.at.now.case.now c.args.evidence.now c.requires.at.evidence c.requires.at.trust c.in_ok-view-in-Insecure.view c.args.at.now.name.now c.in_ok-view-in-Insecure.ensures c.in-Some.shown c.in-Some.ensures.first

pub returns-in_ok-add_cut-in-Insecure : goal.returns-in_ok-add_cut-in-Insecure
returns-in_ok-add_cut-in-Insecure c =
    let Told : Verdict → Type 0 = λ each. Adds (IsSettledTold (setting_in c.args.evidence.now) c.args.at.now.name.now c.args.rtype.0 each)
    c.args.lines.now.items c.add_cut.new.lines.items in
    subst Told (sym c.in-Insecure.is)
    (cut_added c.args.at.now.case.now c.args.evidence.now c.requires.at.evidence c.requires.at.trust c.in_ok-view-in-Insecure.view c.args.at.now.name.now c.in_ok-view-in-Insecure.ensures
    c.args.rtype.0 c.in-Some.shown _ _ c.in-Some.ensures.first c.in_ok-add_cut-in-Insecure.ensures)
