use Rattle.std.proofs.Common.{arith}
use Rattle.dnsv_names.proofs.LineLemmas.DecimalLemmas.{narrowed}
use Rattle.dnsv_names.proofs.lines.decimal.decimal_u8.Goals as goal

pub returns : goal.returns
returns c = rw c.ok.ensures.value (narrowed c.args.text.now c.in_ok-decimal_u16.field-0 c.try_from.result c.in_ok-decimal_u16.ensures (omega arith) c.try_from.ensures)
