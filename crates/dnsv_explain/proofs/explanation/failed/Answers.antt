use Rattle.std.proofs.Common.{[]}
use Rattle.dnsv_verdict.specs.Report.{hashes_in}
use Rattle.dnsv_holding.proofs.lemmas.telling.TellLemmas.{last_hashed, todo_same}
use Rattle.dnsv_explain.proofs.lemmas.telling.WholeLemmas.{failed_ended, way_added}
use Rattle.dnsv_explain.proofs.explanation.failed.Goals as goal

pub add_failure-requires : goal.add_failure-requires
add_failure-requires c =
    let judged = c.args.judged.now in record {
      trust = c.requires.judged.trust;
      evidence = todo_same c.args.case.now c.args.evidence.now [] c.requires.judged.evidence;
      hashes = last_hashed c.args.case.now.rrsets judged.report.links c.as_slice.result.now judged.report.last
          (hashes_in judged) c.hashes_at-last.result.now c.as_slice.ensures.value c.requires.judged.kept.each_name c.hashes_at-last.ensures;
    }

pub returns : goal.returns
returns c =
    let report = c.args.judged.now.report in
    failed_ended c.args.evidence.now c.args.case.now c.requires.judged.evidence c.args.rtype.0
    report.links report.last report.verdict c.new-lines.result.items _ _ c.new-lines.ensures.items _ c.requires.unproved
    c.in_ok-add_failure.ensures
    (way_added c.args.evidence.now c.args.rtype.0 report.links report.last report.verdict _ _ _
    (rw c.as_slice-links.ensures.value at c.in_ok-add_links.ensures) c.in_ok-add_verdict.ensures)
    c.in_ok-add_places_named.ensures

pub add_links-requires-clause-way : goal.add_links-requires-clause-way
add_links-requires-clause-way c =
    let report = c.args.judged.now.report in
    rw (c.as_slice-links.ensures.value, c.deref.ensures.value) (record {
      t = c.args.rtype.0;
      name = c.requires.judged.verdict.0;
      last = report.last;
      leads = c.requires.judged.verdict.1.way.leads;
      each_name = c.requires.judged.kept.each_name;
    })
