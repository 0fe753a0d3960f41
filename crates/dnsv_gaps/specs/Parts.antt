-- What is so of the RRsets of some records.
use Rattle.std.specs.Prelude.{◌≡◌, ◌↔◌, ℕ, List, Contains, map}
use Rattle.std.specs.List.{AllByRecursion}
use Rattle.std.specs.List.Sorted.{IsStrictlySortedBy}
use Rattle.std.specs.Ordering.{nat_cmp}
use Rattle.dnsv_canonical.specs.Rrsets.{IsNumbered, ReceivedRrset}
use Rattle.dnsv_canonical.specs.declared.number.RecordNumber.{RecordNumber}
use Rattle.dnsv_chain.specs.Basis.{Basis}
use Rattle.dnsv_mending.specs.declared.facts.signature.RrsetFacts.{RrsetFacts}
use Rattle.dnsv_faults.specs.Rrsets.{AreRrsetFacts}

-- RRset k has a record that is such
abbrev pub HasSuch : (RecordNumber → Type 0) → ℕ → Type 0
HasSuch Such k = (number : RecordNumber) × (number.rrset ≡ k) × Such number

-- the facts of the RRsets that have records that are such, each once, in the order of their numbers
pub record AreFactsOf (basis : Basis) (Such : RecordNumber → Type 0) (facts : List RrsetFacts) : Type 0 where
  pub rising : IsStrictlySortedBy nat_cmp (map (λ each. each.number) facts)
  pub each : AllByRecursion (λ each. AreRrsetFacts basis each.number each) facts
  pub members : (k : ℕ) → Contains (map (λ each. each.number) facts) k ↔ HasSuch Such k

-- an RRset of the evidence has the number
abbrev pub IsRrset : List ReceivedRrset → ℕ → Type 0
IsRrset rrsets k = (rrset : ReceivedRrset) × IsNumbered rrsets k rrset

-- the record's RRset is one of the evidence
abbrev pub IsInEvidence : List ReceivedRrset → RecordNumber → Type 0
IsInEvidence rrsets number = IsRrset rrsets number.rrset
