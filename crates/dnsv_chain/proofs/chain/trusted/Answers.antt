use Rattle.dnsv_verifier.specs.Table.{table_answer}
use Rattle.dnsv_anchors.specs.ByOwner.{values_at}
use Rattle.dnsv_chain.proofs.KeptLemmas.{is_trust_of}
use Rattle.dnsv_chain.proofs.chain.trusted.Goals as goal

pub returns : goal.returns
returns c =
    let table = c.args.table.now in
    is_trust_of (table_answer table) table.moment table.rrsets c.args.anchors.now (values_at c.in_ok-keys.keys) c.in_ok-keys.ensures c.in_ok-of.field-0 c.in_ok-of.ensures
