use Rattle.std.proofs.Common.{refl}
use Rattle.dnsv_proof_forms.proofs.forms.by_wildcard.by_wildcard_at.Goals as goal

pub returns : goal.returns
returns c = (
  refl,
  record {
    above = c.in_ok-ends.ensures.above;
    encloser = c.in_ok-ends.ensures.encloser;
    next_closer = c.in_ok-ends.ensures.next_closer;
    wildcard = c.in_ok-wildcard.ensures c.args.apex.now;
  },
)
