use Rattle.std.proofs.Common.{take}
use Rattle.dnsv_verifier.specs.Table.{table_answer}
use Rattle.dnsv_anchors.specs.ByOwner.{values_at}
use Rattle.dnsv_chain.specs.ByOwner.{rrsets_at}
use Rattle.dnsv_chain.specs.Chain.{AreKnown, IsWalked}
use Rattle.dnsv_chain.proofs.chain.trusted_keys.Given as goal

-- what the steps so far find is there
abbrev pub invariant-loop-step : goal.invariant-loop-step
invariant-loop-step l =
    record {
      walked : IsWalked (table_answer l.table) l.table.moment l.table.rrsets l.anchors (take l.step-index l.step-items) (values_at l.keys) (rrsets_at l.delegations);
      known : AreKnown l.known (values_at l.keys);
    }
