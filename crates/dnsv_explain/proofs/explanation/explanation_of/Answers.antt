use Rattle.dnsv_explain.proofs.lemmas.telling.WholeLemmas.{open_ended, settled_ended, settled_way_follows, way_added}
use Rattle.dnsv_explain.proofs.explanation.explanation_of.Goals as goal

pub add_end-requires : goal.add_end-requires
add_end-requires c =
    let report = c.args.judged.now.report in
    settled_way_follows c.args.evidence.now c.args.rtype.0 report.links report.last report.verdict
    c.new-lines.result.items c.add_verdict.new.lines.items c.new-lines.ensures.items
    (c.is_settled.ensures.0 c.if-not-is_settled.false)
    (way_added c.args.evidence.now c.args.rtype.0 report.links report.last report.verdict c.new-lines.result.items _ _
    (rw c.as_slice-links.ensures.value at c.in_ok-add_links.ensures) c.in_ok-add_verdict.ensures)

pub failed-requires-clause-unproved : goal.failed-requires-clause-unproved
failed-requires-clause-unproved c = c.is_unproved.ensures.0 c.if-is_unproved.true

pub returns-then-not-is_settled : goal.returns-then-not-is_settled
returns-then-not-is_settled c =
    let report = c.args.judged.now.report in
    open_ended c.args.evidence.now c.args.case.now c.requires.evidence c.args.rtype.0
    report.links report.last report.verdict c.new-lines.result.items _ _ c.new-lines.ensures.items
    (λ unproved. let holds = c.is_unproved.ensures.1 unproved in let fails = c.if-is_unproved.false in cc)
    (λ settled. let holds = c.is_settled.ensures.1 settled in let fails = c.if-not-is_settled.true in cc)
    (way_added c.args.evidence.now c.args.rtype.0 report.links report.last report.verdict c.new-lines.result.items _ _
    (rw c.as_slice-links.ensures.value at c.in_ok-add_links.ensures) c.in_ok-add_verdict.ensures)
    c.in_ok-add_places_named.ensures

pub returns : goal.returns
returns c =
    let report = c.args.judged.now.report in
    settled_ended c.args.evidence.now c.args.case.now c.requires.evidence c.args.rtype.0
    report.links report.last report.verdict c.new-lines.result.items _ _ c.new-lines.ensures.items
    (c.is_settled.ensures.0 c.if-not-is_settled.false)
    (way_added c.args.evidence.now c.args.rtype.0 report.links report.last report.verdict c.new-lines.result.items _ _
    (rw c.as_slice-links.ensures.value at c.in_ok-add_links.ensures) c.in_ok-add_verdict.ensures)
    c.in_ok-add_end.ensures

pub add_links-requires-clause-way : goal.add_links-requires-clause-way
add_links-requires-clause-way c =
    let report = c.args.judged.now.report in
    rw (c.as_slice-links.ensures.value, c.deref.ensures.value) (record {
      t = c.args.rtype.0;
      name = c.requires.verdict.0;
      last = report.last;
      leads = c.requires.verdict.1.way.leads;
      each_name = c.requires.kept.each_name;
    })
