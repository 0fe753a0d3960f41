use Rattle.dnsv_chain.specs.Trust.{SecuredIn}
use Rattle.dnsv_denial.proofs.lemmas.WildcardAnswerLemmas.{answer_more, shown_here}
use Rattle.dnsv_denial.proofs.wildcard_answers.add_answers.Goals as goal

pub loop-place-preserved : goal.loop-place-preserved
loop-place-preserved c = λ trust rrsets view are.
    let rrsig = c.rrsig-item.result in
    answer_more (SecuredIn trust) rrsets c.args.name.now c.loop-place.answers c.insert.new.self (c.labels-in-loop-place.result, rrsig.labels) c.shown_by_records-shown.result
    (c.loop-place.invariant trust rrsets view are) c.in_ok-insert.ensures.updates
    (shown_here (SecuredIn trust) rrsets c.args.name.now rrsig.labels c.labels-in-loop-place.result c.to_name.result c.shown_by_records-shown.result
    (c.is_at_or_below.ensures.at_or_below.0 c.if-not-is_at_or_below.false) c.labels-in-loop-place.ensures.count (c.shown_by_records-shown.ensures trust rrsets view))
