use Rattle.std.proofs.Common.{take, map}
use Rattle.std.specs.List.{AllZip}
use Rattle.dnsv_canonical.proofs.records.read_each.Given as goal

-- the records so far
abbrev pub invariant-loop-rdata : goal.invariant-loop-rdata
invariant-loop-rdata g l =
    AllZip g.T.FromRdata.is_read (map (λ r. r.now) (take l.rdata-index l.received)) l.records.items
