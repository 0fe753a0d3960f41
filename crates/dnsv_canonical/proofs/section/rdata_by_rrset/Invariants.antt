use Rattle.std.proofs.Common.{◌≡◌, take, map}
use Rattle.std.specs.List.{filter}
use Rattle.dnsv_message.specs.declared.record.Record.{Record}
use Rattle.dnsv_canonical.specs.Rrsets.{is_grouped, same_rrset}
use Rattle.dnsv_canonical.specs.ByRrset.{rdata_at}
use Rattle.dnsv_canonical.proofs.section.rdata_by_rrset.Given as goal

-- the RDATA of each RRset so far
abbrev pub invariant-loop-record : goal.invariant-loop-record
invariant-loop-record l =
    (first : Record) → rdata_at l.by_rrset first.rtype.0 first.name ≡ map (λ r. r.rdata) (filter (same_rrset first) (filter is_grouped (take l.record-index l.records)))
