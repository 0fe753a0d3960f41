use Rattle.std.proofs.lemmas.List.{take_all}
use Rattle.dnsv_anchors.proofs.UsableLemmas.{keeps_lead, next_lead, takes_lead}
use Rattle.dnsv_anchors.proofs.usable.leading_digest_type.Goals as goal
use Rattle.dnsv_anchors.proofs.usable.leading_digest_type.Goals.{then-takes_over, else-takes_over}

pub loop-ds-preserved : goal.loop-ds-preserved
loop-ds-preserved c =
    elim c.if-takes_over.branch [
      | then-takes_over w ↦
          next_lead c.args.records.now c.loop-ds.ds-index c.ds-item.result _ c.if-takes_over.leading c.loop-ds-test.true c.ds-item.is w.leading-is
          (takes_lead _ c.ds-item.result c.loop-ds.leading c.loop-ds.invariant (c.takes_over.ensures.0 w.if-takes_over.true))
      | else-takes_over w ↦
          next_lead c.args.records.now c.loop-ds.ds-index c.ds-item.result _ c.if-takes_over.leading c.loop-ds-test.true c.ds-item.is w.leading-is
          (keeps_lead _ c.ds-item.result c.loop-ds.leading c.loop-ds.invariant (λ over. let yes = c.takes_over.ensures.1 over in let no = w.if-takes_over.false in cc))
    ]

pub returns : goal.returns
returns c = rw (← take_all c.loop-ds.ds-index c.args.records.now c.loop-ds-test.false) c.loop-ds.invariant
