-- What is so of an RRset.
pub mod RrsetSearch
use Rattle.std.specs.Prelude.{◌≡◌, ℕ, List, IsPermutation, IsSortedByKey, length}
use Rattle.std.specs.List.{AllZip, enumerate_from}
use Rattle.std.specs.Ordering.{nat_cmp, ordering_then}
use Rattle.std.specs.declared.cmp.Ordering.{Ordering}
use Rattle.dnsv_records.specs.Rrsig.{IsRrsig}
use Rattle.dnsv_records.specs.declared.rrsig.Rrsig.{Rrsig}
use Rattle.dnsv_canonical.specs.Rrsets.{IsNumbered, ReceivedRrset}
use Rattle.dnsv_chain.specs.Basis.{Basis}
use Rattle.dnsv_mending.specs.declared.facts.signature.RrsetFacts.{RrsetFacts}
use Rattle.dnsv_faults.specs.Signatures.{AreSignatureFacts}

-- by what signatures are put in order: the number of labels of the signer, and their own number
pub record Rank : Type 0 where
  pub labels : ℕ
  pub number : ℕ

-- most labels first, and then the lowest number
abbrev pub rank_cmp : Rank → Rank → Ordering
rank_cmp a b = ordering_then (nat_cmp b.labels a.labels) (nat_cmp a.number b.number)

abbrev pub rank_of : ℕ × Rrsig → Rank
rank_of numbered = record { labels = length numbered.1.signer; number = numbered.0 }

-- the signatures of the RRset, each with its number, in this order
pub record AreInOrder (rrset : ReceivedRrset) (order : List (ℕ × Rrsig)) : Type 0 where
  pub signatures : List Rrsig
  pub read : AllZip IsRrsig rrset.signatures signatures
  pub moved : IsPermutation (enumerate_from 1 signatures) order
  pub rising : IsSortedByKey rank_of rank_cmp order

-- the facts are those of RRset k
pub record AreRrsetFacts (basis : Basis) (k : ℕ) (facts : RrsetFacts) : Type 0 where
  pub rrset : ReceivedRrset
  pub numbered : IsNumbered basis.rrsets k rrset
  pub number : facts.number ≡ k
  pub order : List (ℕ × Rrsig)
  pub in_order : AreInOrder rrset order
  pub each : AllZip (λ signature known. AreSignatureFacts basis k rrset signature.0 known) order facts.signatures.items
