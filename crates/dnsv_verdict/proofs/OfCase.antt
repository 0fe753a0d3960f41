-- What holds by a case's own parts holds of each basis that it is a case of.
use Rattle.std.proofs.Common.{◌≡◌, ℕ, List, sym, subst}
use Rattle.dnsv_canonical.specs.Rrsets.{ReceivedRrset}
use Rattle.dnsv_verifier.specs.Admissible.{IsAsked}
use Rattle.dnsv_verifier.specs.Table.{IsTableOf, TableContents, table_answer}
use Rattle.dnsv_verifier.specs.declared.answer.Answer.{Answer}
use Rattle.dnsv_verifier.specs.declared.entry.Entry.{Entry}
use Rattle.dnsv_chain.specs.Trust.{IsTrustOf}
use Rattle.dnsv_anchors.specs.declared.anchor.Anchor.{Anchor}
use Rattle.dnsv_verdict.proofs.ReportLemmas.{table_of_itself}
use Rattle.dnsv_chain.specs.Basis.{CaseContents, HasTrust, IsCaseOf, IsCaseWith, Basis, basis_of}

-- a case with the table of a verifier is one of what that verifier says
case_with : (basis : Basis) (table : TableContents) (case : CaseContents) → IsCaseWith basis.rrsets basis.anchors table case
    → IsTableOf basis.meaning basis.moment basis.rrsets table → IsCaseOf basis case
case_with basis table case made of = record {
  rrsets = made.rrsets;
  anchors = made.anchors;
  table = subst (λ each. IsTableOf basis.meaning basis.moment basis.rrsets each) (sym made.table) of;
}

-- the same of a case with a table and its evidence
pub case_by : (basis : Basis) (table : TableContents) (case : CaseContents) → IsCaseWith table.rrsets basis.anchors table case
    → IsTableOf basis.meaning basis.moment basis.rrsets table → IsCaseOf basis case
case_by basis table case made of =
    case_with basis table case (subst (λ rrsets. IsCaseWith rrsets basis.anchors table case) of.of_rrsets made) of

-- the table is that of the case's own RRsets
pub table_in : (basis : Basis) (case : CaseContents) → IsCaseOf basis case → IsTableOf basis.meaning basis.moment case.rrsets case.table
table_in basis case is = subst (λ rrsets. IsTableOf basis.meaning basis.moment rrsets case.table) (sym is.rrsets) is.table

-- what holds of the case's own RRsets and anchors, whoever its table is of, holds of the basis
pub of_case : (P : Basis → Type 0) (basis : Basis) (case : CaseContents) → IsCaseOf basis case
    → ((meaning : Entry → Answer) (moment : ℕ) → IsTableOf meaning moment case.rrsets case.table
    → P (basis_of case.rrsets case.anchors moment meaning))
    → P basis
of_case P basis case is holds =
    let Rrsets : List ReceivedRrset → Type 0 = λ rrsets. P (basis_of rrsets basis.anchors basis.moment basis.meaning) in
    let Anchors : List Anchor → Type 0 = λ anchors. P (basis_of case.rrsets anchors basis.moment basis.meaning) in
    subst Rrsets is.rrsets (subst Anchors is.anchors (holds basis.meaning basis.moment (table_in basis case is)))

-- the table of a case is its own verifier
pub table_by : (basis : Basis) (case : CaseContents)
    → ((meaning : Entry → Answer) (moment : ℕ) (rrsets : List ReceivedRrset) (contents : TableContents) → IsTableOf meaning moment rrsets contents
    → (entry : Entry) → IsAsked moment rrsets entry → table_answer contents entry ≡ meaning entry)
    → IsCaseOf basis case → IsTableOf (table_answer case.table) case.table.moment case.rrsets case.table
table_by basis case says is =
    table_of_itself basis.meaning basis.moment case.rrsets case.table (says basis.meaning basis.moment case.rrsets case.table (table_in basis case is)) (table_in basis case is)

-- ---- hope

-- the trust of a case with the RRsets and anchors of another, by these
pub trust_alike : (case other : CaseContents) → other.rrsets ≡ case.rrsets → other.anchors ≡ case.anchors → HasTrust other
    → IsTrustOf (table_answer other.table) other.table.moment case.rrsets case.anchors other.trust
trust_alike case other rrsets anchors trust =
    let Of : List ReceivedRrset → List Anchor → Type 0 = λ all some. IsTrustOf (table_answer other.table) other.table.moment all some other.trust in
    subst (λ all. Of all case.anchors) rrsets (subst (λ some. Of other.rrsets some) anchors trust)
