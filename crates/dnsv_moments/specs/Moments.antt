-- What questions are judged by at each moment of a range.
use Rattle.std.specs.Prelude.{◌≡◌, ℕ, List}
use Rattle.dnsv_canonical.specs.Rrsets.{ReceivedRrset}
use Rattle.dnsv_anchors.specs.declared.anchor.Anchor.{Anchor}
use Rattle.dnsv_chain.specs.Basis.{CaseContents, Basis, basis_of}
use Rattle.dnsv_verifier.specs.Table.{TableContents}
use Rattle.dnsv_verifier.specs.Within.{IsTableWithin}
use Rattle.dnsv_verifier.specs.declared.answer.Answer.{Answer}
use Rattle.dnsv_verifier.specs.declared.entry.Entry.{Entry}

-- the RRsets of the evidence, the trust anchors, the first moment and the last, and a table for these
pub record MomentsContents : Type 0 where
  pub rrsets : List ReceivedRrset
  pub anchors : List Anchor
  pub from : ℕ
  pub to : ℕ
  pub table : TableContents

-- the table has what a verifier of this meaning says within the range
pub record IsSaidBy (meaning : Entry → Answer) (moments : MomentsContents) : Type 0 where
  pub table : IsTableWithin meaning moments.from moments.to moments.rrsets moments.table

-- the case is of the same evidence
abbrev pub IsOfEvidence : MomentsContents → CaseContents → Type 0
IsOfEvidence moments case = case.rrsets ≡ moments.rrsets

-- by that verifier at the first moment
abbrev pub basis_with : (Entry → Answer) → MomentsContents → Basis
basis_with meaning moments = basis_of moments.rrsets moments.anchors moments.from meaning

-- these RRsets and anchors, this range, and this table for it
pub record AreMomentsOf
    (rrsets : List ReceivedRrset) (anchors : List Anchor) (from to : ℕ) (table : TableContents) (moments : MomentsContents)
    : Type 0 where
  pub evidence : moments.rrsets ≡ rrsets
  pub given : moments.anchors ≡ anchors
  pub first : moments.from ≡ from
  pub last : moments.to ≡ to
  pub answers : moments.table ≡ table

-- these RRsets and anchors, this range, and what a verifier of this meaning says within it
pub record AreMomentsBy
    (rrsets : List ReceivedRrset) (anchors : List Anchor) (from to : ℕ) (meaning : Entry → Answer)
    (moments : MomentsContents) : Type 0 where
  pub evidence : moments.rrsets ≡ rrsets
  pub given : moments.anchors ≡ anchors
  pub first : moments.from ≡ from
  pub last : moments.to ≡ to
  pub said : IsSaidBy meaning moments
