use Rattle.std.proofs.Common.{arith}
use Rattle.dnsv_records.proofs.BlockLemmas.{BlockAtFront-found}
use Rattle.dnsv_records.proofs.bitmap.blocks.block_size.Goals as goal

pub returns-clause-found : goal.returns-clause-found
returns-clause-found c =
    BlockAtFront-found c.args.octets.now c.args.least c.from-count.result (λ i. omega (arith, c.type_inv.octets i)) (omega (arith, c.from.ensures)) c.from-count.ensures (omega arith) c.if-count-gt-BITS_LIMIT.false c.if-octets-size.false c.if-octets-size-eq0.false
