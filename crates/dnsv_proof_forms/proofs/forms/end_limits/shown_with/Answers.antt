use Rattle.std.proofs.Common.{subst, sym}
use Rattle.dnsv_zones.specs.forms.Nsec.{IsNodeBy}
use Rattle.dnsv_proof_forms.specs.records.Record.{read_entry}
use Rattle.dnsv_proof_forms.proofs.lemmas.forms.EndLimitLemmas.{shows_no_more}
use Rattle.dnsv_proof_forms.proofs.forms.end_limits.shown_with.Goals as goal

pub returns-then-not-is_node-clause-most : goal.returns-then-not-is_node-clause-most
returns-then-not-is_node-clause-most c =
    shows_no_more c.args.name.now c.args.entry.now c.loop-most.most
    (λ node. let holds = c.is_node.ensures.1 (subst (IsNodeBy (read_entry c.args.entry.now)) (sym c.suffix-deeper.ensures.labels) node) in
    let fails = c.if-not-is_node.true in cc)
