use Rattle.dnsv_verifier.specs.Table.{table_answer}
use Rattle.dnsv_anchors.specs.ByOwner.{values_at}
use Rattle.dnsv_chain.specs.Signing.{AreGoodNumbersTo}
use Rattle.dnsv_chain.proofs.signing.good_numbers.Given as goal

abbrev pub invariant-loop-place : goal.invariant-loop-place
invariant-loop-place l =
    AreGoodNumbersTo (table_answer l.answered.table.now) l.answered.table.now.moment l.answered.rrset.now (values_at l.keys) l.place l.numbers.items
