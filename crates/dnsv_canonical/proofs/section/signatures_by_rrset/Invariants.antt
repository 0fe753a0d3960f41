use Rattle.std.proofs.Common.{◌≡◌, ℕ, ◌<◌, ◌^◌, take, map}
use Rattle.std.specs.List.{filter}
use Rattle.dnsv_names.specs.Name.{Labels}
use Rattle.dnsv_canonical.specs.Rrsets.{is_signature}
use Rattle.dnsv_canonical.specs.ByRrset.{rdata_at}
use Rattle.dnsv_canonical.proofs.section.signatures_by_rrset.Given as goal

-- the signatures over each RRset so far
abbrev pub invariant-loop-record : goal.invariant-loop-record
invariant-loop-record l =
    (owner : Labels) (rtype : ℕ) → rtype < 2 ^ 16 → rdata_at l.by_rrset rtype owner ≡ map (λ r. r.rdata) (filter (is_signature owner rtype) (take l.record-index l.records))
