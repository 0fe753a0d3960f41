-- What hope comes to.
use Rattle.std.specs.Prelude.{◌≡◌, ℕ, Option, Some, None}
use Rattle.dnsv_names.specs.Name.{Labels}
use Rattle.dnsv_verifier.specs.Table.{hopeful}
use Rattle.dnsv_chain.specs.Basis.{CaseContents, HasTrust, IsCaseWith, basis_by}
use Rattle.dnsv_verdict.specs.Verdict.{IsSettledAsBy}
use Rattle.dnsv_verdict.specs.declared.at_name.Hope.{Hope}
use Rattle.dnsv_verdict.specs.declared.verdict.Verdict.{Verdict}
use Rattle.dnsv_verdict.specs.declared.verdict.Verdict.TheVariants.{Pending}

-- it has the same evidence and anchors, the table with each Unknown Valid, and the trust that this gives
abbrev pub IsHopeful : CaseContents → CaseContents → Type 0
IsHopeful case = IsCaseWith case.rrsets case.anchors (hopeful case.table)

-- By the same evidence and anchors, with each Unknown of the table Valid and the trust that this gives, it is the
-- verdict at the name: one of the first five.
pub record IsHope (case : CaseContents) (name : Labels) (t : ℕ) (hope : Hope) : Type 0 where
  pub rrsets : hope.case.value.rrsets ≡ case.rrsets
  pub anchors : hope.case.value.anchors ≡ case.anchors
  pub table : hope.case.value.table ≡ hopeful case.table
  pub trust : HasTrust hope.case.value
  pub verdict : IsSettledAsBy (basis_by hope.case.value) name t hope.verdict

-- there is such a hope just for a verdict that depends on entries
abbrev pub HasHope : CaseContents → Labels → ℕ → Verdict → Option Hope → Type 0
HasHope case name t (Pending entries) (Some hope) = IsHope case name t hope
HasHope case name t (Pending entries) None = ⊥
HasHope case name t verdict hope = hope ≡ None
