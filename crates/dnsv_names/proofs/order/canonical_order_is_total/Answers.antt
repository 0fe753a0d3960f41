use Rattle.dnsv_names.specs.Order.OrderLaws.{canonical_cmp_total, canonical_Equal, SameName_Equal}
use Rattle.dnsv_names.proofs.order.canonical_order_is_total.Goals as goal

pub returns-clause-total : goal.returns-clause-total
returns-clause-total c = canonical_cmp_total

pub returns-clause-equality : goal.returns-clause-equality
returns-clause-equality c = λ a b. (canonical_Equal a b, SameName_Equal a b)
