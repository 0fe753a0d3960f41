-- What is explained, and what lines are told by.
use Rattle.std.specs.Prelude.{ℕ, List, Option, Some, None, Contains}
use Rattle.dnsv_canonical.specs.Rrsets.{IsNumbered, ReceivedRrset}
use Rattle.dnsv_verifier.specs.Table.{TableContents, table_answer}
use Rattle.dnsv_verifier.specs.declared.answer.Answer.{Answer}
use Rattle.dnsv_verifier.specs.declared.entry.Entry.{Entry}
use Rattle.dnsv_anchors.specs.declared.anchor.Anchor.{Anchor}

-- ---- what lines are told by

-- the RRsets of the evidence, the trust anchors, the moment, what a verifier says of each entry, and the entries of
-- which lines tell the numbers
pub record Setting : Type 0 where
  pub rrsets : List ReceivedRrset
  pub anchors : List Anchor
  pub moment : ℕ
  pub meaning : Entry → Answer
  pub todo : List Entry

-- the number of the entry among these, from 1 on; none where it isn't among them
abbrev pub IsTodo : List Entry → Entry → Option ℕ → Type 0
IsTodo entries entry None = ¬ Contains entries entry
IsTodo entries entry (Some number) = IsNumbered entries number entry

-- ---- what is explained

-- the RRsets of the evidence, the trust anchors, the table of what a verifier says at a moment, and the entries of which
-- lines tell the numbers
pub record Explained : Type 0 where
  pub rrsets : List ReceivedRrset
  pub anchors : List Anchor
  pub table : TableContents
  pub todo : List Entry

-- what its lines are told by
abbrev pub setting_in : Explained → Setting
setting_in explained = record {
  rrsets = explained.rrsets;
  anchors = explained.anchors;
  moment = explained.table.moment;
  meaning = table_answer explained.table;
  todo = explained.todo;
}
