use Rattle.std.proofs.Common.{◌≡◌, map, take}
use Rattle.dnsv_chain.proofs.trust.distinct_records.Given as goal

-- the records so far
abbrev pub invariant-loop-record : goal.invariant-loop-record
invariant-loop-record l = l.distinct.items ≡ map (λ key. (key.rdata, key.dnskey)) (take l.record-index l.records)
