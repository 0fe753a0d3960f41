use Rattle.std.proofs.Common.{bit_xor}
use Rattle.dnsv_digest.proofs.DigestLemmas.{changed_more}
use Rattle.dnsv_digest.proofs.hmac.masked.Goals as goal

pub loop-octet-preserved : goal.loop-octet-preserved
loop-octet-preserved c =
    changed_more (λ octet. bit_xor octet c.args.pad) c.args.block c.loop-octet.octet-items c.loop-octet.octet-index
    c.loop-octet.invariant
