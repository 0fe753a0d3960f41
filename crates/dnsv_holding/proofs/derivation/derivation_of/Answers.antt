use Rattle.dnsv_holding.proofs.lemmas.telling.DerivedLemmas.{links_told, way_told}
use Rattle.dnsv_holding.proofs.derivation.derivation_of.Goals as goal

pub add_links-requires-clause-way : goal.add_links-requires-clause-way
add_links-requires-clause-way c =
    let report = c.args.judged.now.report in
    rw (c.as_slice-links.ensures.value, c.deref.ensures.value) (record {
      t = c.args.rtype.0;
      name = c.requires.verdict.0;
      last = report.last;
      leads = c.requires.verdict.1.way.leads;
      each_name = c.requires.kept.each_name;
    })

pub returns-then-is_unproved : goal.returns-then-is_unproved
returns-then-is_unproved c =
    let report = c.args.judged.now.report in
    links_told c.args.evidence.now c.args.case.now c.requires.evidence c.args.rtype.0 report.links report.last report.verdict
    c.new-lines.result.items _ c.new-lines.ensures.items (c.is_unproved.ensures.0 c.if-is_unproved.true)
    (rw c.as_slice-links.ensures.value at c.in_ok-add_links.ensures)

pub returns : goal.returns
returns c =
    let report = c.args.judged.now.report in
    way_told c.args.evidence.now c.args.case.now c.requires.evidence c.args.rtype.0 report.links report.last report.verdict
    c.new-lines.result.items _ c.new-lines.ensures.items _
    (λ unproved. let holds = c.is_unproved.ensures.1 unproved in let fails = c.if-is_unproved.false in cc)
    (rw c.as_slice-links.ensures.value at c.in_ok-add_links.ensures) c.in_ok-add_verdict.ensures
