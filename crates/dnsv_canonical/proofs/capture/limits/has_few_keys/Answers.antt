use Rattle.std.proofs.Common.{map}
use Rattle.dnsv_canonical.proofs.LimitLemmas.{few_keys}
use Rattle.dnsv_canonical.proofs.capture.limits.has_few_keys.Goals as goal

pub returns : goal.returns
returns c = rw c.as_slice.ensures.value (few_keys (map (λ r. r.now) c.args.received.now) c.in_ok-keys.keys.items c.in_ok-keys.ensures.order)
