use Rattle.std.proofs.Common.{◌≡◌, Some, sym, ap, ◌∙◌}
use Rattle.std.specs.BTreeMap.{get}
use Rattle.std.specs.Option.{option_copied}
use Rattle.dnsv_chain.specs.Trust.{SecuredIn}
use Rattle.dnsv_denial.specs.WildcardAnswers.{asked_cmp}
use Rattle.dnsv_denial.proofs.lemmas.WildcardAnswerLemmas.{isnt, shown_there}
use Rattle.dnsv_denial.proofs.wildcard_answers.may_have_closer.Goals as goal

pub returns-in-Some : goal.returns-in-Some
returns-in-Some c = λ is trust rrsets are.
    let found : get asked_cmp c.args.answers.now (c.labels.result, c.args.labels) ≡ Some c.in-Some.shown.now = sym c.get.ensures.value ∙ ap option_copied c.in-Some.is in
    (shown_there (SecuredIn trust) rrsets c.args.name.now c.args.labels c.labels.result c.args.zone.now c.in-Some.shown.now c.args.answers.now
    (c.is_at_or_below.ensures.at_or_below.0 c.if-not-is_at_or_below.false) c.labels.ensures.count found are).closer (isnt _ is)
