-- What answers by number mean.
use Rattle.std.specs.Prelude.{◌≡◌, ℕ, List, length}
use Rattle.std.specs.List.{zip}
use Rattle.dnsv_canonical.specs.Rrsets.{ReceivedRrset}
use Rattle.dnsv_verifier.specs.Table.{TableContents}
use Rattle.dnsv_verifier.specs.Within.{AreAskedWithin}
use Rattle.dnsv_verifier.specs.declared.answer.Answer.{Answer}
use Rattle.dnsv_verifier.specs.declared.entry.Entry.{Entry}

-- The table has the answers of just those entries that are asked at some moment of the range, each once, by rising
-- algorithm, key, signed data and signature: the first answer is that of the first entry, and so on. What it says is what
-- the answers mean: of any other entry nothing is known. Its moment is the first of the range, and its evidence that of
-- the entries.
pub record IsAnsweredTableWithin (from to : ℕ) (rrsets : List ReceivedRrset) (said : List Answer) (table : TableContents)
    : Type 0 where
  pub of_moment : table.moment ≡ from
  pub of_rrsets : table.rrsets ≡ rrsets
  pub entries : List Entry
  pub asked : AreAskedWithin from to rrsets entries
  pub each : length said ≡ length entries
  pub answers : table.answers ≡ zip entries said

-- the same of one moment
abbrev pub IsAnsweredTable : ℕ → List ReceivedRrset → List Answer → TableContents → Type 0
IsAnsweredTable moment rrsets said table = IsAnsweredTableWithin moment moment rrsets said table

-- so many entries are asked at some moment of the range: those of a list that has each once
pub record IsNumberAskedWithin (from to : ℕ) (rrsets : List ReceivedRrset) (count : ℕ) : Type 0 where
  pub entries : List Entry
  pub asked : AreAskedWithin from to rrsets entries
  pub is : count ≡ length entries
