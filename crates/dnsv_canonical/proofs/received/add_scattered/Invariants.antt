use Rattle.std.proofs.Common.{◌≡◌, ◌++◌, ◌&&◌, [], take, map, if◌then◌else◌}
use Rattle.std.specs.List.{filter, list_any}
use Rattle.dnsv_message.specs.declared.record.Record.{Record}
use Rattle.dnsv_canonical.specs.Rrsets.{rrset_of, first_appearances, same_rrset, is_grouped}
use Rattle.dnsv_canonical.specs.ByRrset.{rdata_at}
use Rattle.dnsv_canonical.proofs.received.add_scattered.Given as goal

-- the RRsets that appeared so far, and that the RDATA of just these is taken
abbrev pub invariant-loop-record : goal.invariant-loop-record
invariant-loop-record l =
    (
    l.rrsets.items
    ≡ l.fn.rrsets.items ++ map (rrset_of l.message l.section l.records) (first_appearances same_rrset (filter is_grouped (take l.record-index l.records)))
    )
    × (
    (first : Record) → rdata_at l.data first.rtype.0 first.name
    ≡ if list_any (λ r. is_grouped r && same_rrset r first) (take l.record-index l.records) then [] else map (λ r. r.rdata) (filter (same_rrset first) (filter is_grouped l.records))
    )
