-- How many entries a verifier is asked.
use Rattle.std.specs.Prelude.{◌≡◌, ◌↔◌, ℕ, List, Contains, length}
use Rattle.std.specs.List.Sorted.{IsStrictlySortedBy}
use Rattle.dnsv_canonical.specs.Rrsets.{ReceivedRrset}
use Rattle.dnsv_verifier.specs.Admissible.{IsAsked}
use Rattle.dnsv_verifier.specs.Entry.{entry_cmp}
use Rattle.dnsv_verifier.specs.declared.entry.Entry.{Entry}

-- so many entries are asked: those of a list that has each once
pub record IsNumberAsked (moment : ℕ) (rrsets : List ReceivedRrset) (count : ℕ) : Type 0 where
  pub entries : List Entry
  pub rising : IsStrictlySortedBy entry_cmp entries
  pub members : (entry : Entry) → Contains entries entry ↔ IsAsked moment rrsets entry
  pub is : count ≡ length entries
