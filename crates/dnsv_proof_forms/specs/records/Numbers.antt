-- The numbers of a chain's records, and their order.
use Rattle.std.specs.Ordering.{nat_cmp, ordering_then}
use Rattle.std.specs.declared.cmp.Ordering.{Ordering}
use Rattle.std.specs.Prelude.{ℕ, List, length, map, get_or}
use Rattle.dnsv_canonical.specs.declared.number.RecordNumber.{RecordNumber}
use Rattle.dnsv_proof_forms.specs.declared.records.chain_records.ChainRecords.{ChainRecords}
use Rattle.dnsv_proof_forms.specs.declared.records.chain_records.ChainRecords.TheVariants.{Nsec, Nsec3}

-- in the order of the records
abbrev pub numbers_of : ChainRecords → List RecordNumber
numbers_of (Nsec entries) = map (λ entry. entry.number) entries.now
numbers_of (Nsec3 hashed) = map (λ entry. entry.number) hashed.now.entries.now

-- how many there are
abbrev pub record_count : ChainRecords → ℕ
record_count (Nsec entries) = length entries.now
record_count (Nsec3 hashed) = length hashed.now.entries.now

-- the number at a place of the list, which has one there
abbrev pub number_at : List RecordNumber → ℕ → RecordNumber
number_at numbers place = get_or numbers place (record { rrset = 0; place = 0 })

-- by RRset, and then by place
abbrev pub number_cmp : RecordNumber → RecordNumber → Ordering
number_cmp a b = ordering_then (nat_cmp a.rrset b.rrset) (nat_cmp a.place b.place)
