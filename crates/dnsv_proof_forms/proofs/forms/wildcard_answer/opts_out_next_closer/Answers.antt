use Rattle.dnsv_proof_forms.proofs.forms.wildcard_answer.opts_out_next_closer.Goals as goal

pub returns : goal.returns
returns c = (
  λ yes. record {
    above = c.is_above.ensures.above.0 c.if-not-is_above.false;
    opted_out = (c.is_opted_out.ensures c.args.apex.now).0 yes;
  },
  λ leaves. (c.is_opted_out.ensures c.args.apex.now).1 leaves.opted_out,
)
