-- What questions are judged by: the basis, which laws for any verifier speak of, and the case, which has what a verifier says
-- in a table.
use Rattle.std.specs.Prelude.{◌≡◌, ℕ, List, Contains}
use Rattle.dnsv_names.specs.Name.{Labels, IsAtOrBelow}
use Rattle.dnsv_canonical.specs.Rrsets.{ReceivedRrset}
use Rattle.dnsv_verifier.specs.Table.{IsTableOf, TableContents, hoped_answer, table_answer}
use Rattle.dnsv_verifier.specs.declared.answer.Answer.{Answer}
use Rattle.dnsv_verifier.specs.declared.entry.Entry.{Entry}
use Rattle.dnsv_anchors.specs.Anchor.{anchor_owner}
use Rattle.dnsv_chain.specs.Trust.{IsTrustOf, KeptTrust}
use Rattle.dnsv_anchors.specs.declared.anchor.Anchor.{Anchor}

-- ---- the basis

-- the RRsets of the evidence, the trust anchors, the moment, and what a verifier says of each entry
pub record Basis : Type 0 where
  pub rrsets : List ReceivedRrset
  pub anchors : List Anchor
  pub moment : ℕ
  pub meaning : Entry → Answer

abbrev pub basis_of : List ReceivedRrset → List Anchor → ℕ → (Entry → Answer) → Basis
basis_of rrsets anchors moment meaning = record {
  rrsets = rrsets;
  anchors = anchors;
  moment = moment;
  meaning = meaning;
}

-- the same with a verifier of another meaning
abbrev pub with_meaning : Basis → (Entry → Answer) → Basis
with_meaning basis meaning = basis_of basis.rrsets basis.anchors basis.moment meaning

-- the same with each Unknown taken as Valid
abbrev pub hopeful : Basis → Basis
hopeful basis = with_meaning basis (λ entry. hoped_answer (basis.meaning entry))

-- a trust anchor is at or above the name (RFC 4033 5)
abbrev pub HasAnchor : List Anchor → Labels → Type 0
HasAnchor anchors name = (anchor : Anchor) × Contains anchors anchor × IsAtOrBelow name (anchor_owner anchor)

-- ---- the case

-- the RRsets of the evidence, the trust anchors, the table of what a verifier says at a moment, and what is kept of the
-- trust that these give
pub record CaseContents : Type 0 where
  pub rrsets : List ReceivedRrset
  pub anchors : List Anchor
  pub table : TableContents
  pub trust : KeptTrust

-- what its questions are judged by, the table being its own verifier
abbrev pub basis_by : CaseContents → Basis
basis_by case = basis_of case.rrsets case.anchors case.table.moment (table_answer case.table)

-- the trust is what the evidence, the anchors and the table give
abbrev pub HasTrust : CaseContents → Type 0
HasTrust case = IsTrustOf (table_answer case.table) case.table.moment case.rrsets case.anchors case.trust

-- it has these RRsets and anchors, this table, and the trust that they give
pub record IsCaseWith
    (evidence : List ReceivedRrset) (given : List Anchor) (answers : TableContents) (case : CaseContents) : Type 0 where
  pub rrsets : case.rrsets ≡ evidence
  pub anchors : case.anchors ≡ given
  pub table : case.table ≡ answers
  pub trust : HasTrust case

-- it has the RRsets and the anchors of the basis, and the table of what its verifier says at its moment
pub record IsCaseOf (basis : Basis) (case : CaseContents) : Type 0 where
  pub rrsets : case.rrsets ≡ basis.rrsets
  pub anchors : case.anchors ≡ basis.anchors
  pub table : IsTableOf basis.meaning basis.moment basis.rrsets case.table
