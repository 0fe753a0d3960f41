use Rattle.dnsv_proof_forms.specs.forms.ShownUnsigned.ShowsOptOutCloser.{opt_out_closer}
use Rattle.dnsv_proof_forms.proofs.forms.unsigned.opt_out_closer.Goals as goal

pub returns : goal.returns
returns c = opt_out_closer c.in_ok-next_closer.next_closer (record {
  above = c.is_above.ensures.above.0 c.if-not-is_above.false;
  next_closer = c.in_ok-next_closer.ensures c.args.apex.now;
})
