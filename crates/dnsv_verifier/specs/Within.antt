-- Tables for a range of moments, and what is left of a table at one moment.
use Rattle.std.specs.Prelude.{◌≡◌, ◌↔◌, ◌≤◌, ℕ, List, Contains, length, map}
use Rattle.std.specs.List.Sorted.{IsStrictlySortedBy}
use Rattle.dnsv_names.specs.Octets.{number_at}
use Rattle.dnsv_records.specs.Rrsig.Time.{ValidAt}
use Rattle.dnsv_records.specs.declared.rrsig.Rrsig.{Rrsig}
use Rattle.dnsv_canonical.specs.Rrsets.{ReceivedRrset}
use Rattle.dnsv_verifier.specs.Admissible.{IsAsked, IsVerifiable}
use Rattle.dnsv_verifier.specs.Entry.{entry_cmp}
use Rattle.dnsv_verifier.specs.Table.{TableContents}
use Rattle.dnsv_verifier.specs.declared.answer.Answer.{Answer}
use Rattle.dnsv_verifier.specs.declared.entry.Entry.{Entry}

-- some key might verify the signature of the RRset at some moment of the range
pub record IsVerifiableWithin (from to : ℕ) (rrset : ReceivedRrset) (rrsig : Rrsig) : Type 0 where
  pub moment : ℕ
  pub begins : from ≤ moment
  pub ends : moment ≤ to
  pub verifiable : IsVerifiable moment rrset rrsig

-- the entry is that of a signature and a key of the evidence that may be used for it at some moment of the range
pub record IsAskedWithin (from to : ℕ) (rrsets : List ReceivedRrset) (entry : Entry) : Type 0 where
  pub moment : ℕ
  pub begins : from ≤ moment
  pub ends : moment ≤ to
  pub asked : IsAsked moment rrsets entry

-- just those entries, each once, by rising algorithm, key, signed data and signature
pub record AreAskedWithin (from to : ℕ) (rrsets : List ReceivedRrset) (entries : List Entry) : Type 0 where
  pub rising : IsStrictlySortedBy entry_cmp entries
  pub members : (entry : Entry) → Contains entries entry ↔ IsAskedWithin from to rrsets entry

-- the evidence, and what a verifier of this meaning says of them
pub record IsTableWithin (meaning : Entry → Answer) (from to : ℕ) (rrsets : List ReceivedRrset) (contents : TableContents)
    : Type 0 where
  pub of_rrsets : contents.rrsets ≡ rrsets
  pub entries : List Entry
  pub asked : AreAskedWithin from to rrsets entries
  pub answers : contents.answers ≡ map (λ entry. (entry, meaning entry)) entries

-- The signature of the entry is valid at the moment: its signed data begins with the RRSIG's RDATA, which has the
-- expiration behind its first eight octets, and then the inception (RFC 4034 3.1, 3.1.5, 3.1.8.1).
pub record IsTimely (moment : ℕ) (entry : Entry) : Type 0 where
  pub long : 16 ≤ length entry.signed_data
  pub valid : ValidAt (number_at entry.signed_data 12 4) (number_at entry.signed_data 8 4) moment

-- the contents are of the moment and the table's evidence, and have just those entries of the table, with their answers,
-- that are timely at it
pub record IsTableAt (table : TableContents) (moment : ℕ) (contents : TableContents) : Type 0 where
  pub of_moment : contents.moment ≡ moment
  pub of_rrsets : contents.rrsets ≡ table.rrsets
  pub rising : IsStrictlySortedBy entry_cmp (map (λ each. each.0) contents.answers)
  pub members : (each : Entry × Answer)
      → Contains contents.answers each ↔ (Contains table.answers each × IsTimely moment each.0)
