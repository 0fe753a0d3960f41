use Rattle.std.proofs.Common.{map, take}
use Rattle.dnsv_verifier.specs.Table.{table_answer}
use Rattle.dnsv_anchors.specs.ByOwner.{values_at}
use Rattle.dnsv_chain.specs.Kept.{AreSigned}
use Rattle.dnsv_chain.proofs.trust.good_numbers_of_each.Given as goal

abbrev pub invariant-loop-place : goal.invariant-loop-place
invariant-loop-place l =
    AreSigned (table_answer l.table) l.table.moment (take l.place l.rrsets) (values_at l.keys) (map (λ numbers. numbers.items) l.signed.items)
