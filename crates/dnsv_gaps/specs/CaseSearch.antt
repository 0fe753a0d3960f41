-- How the case of a source is looked for. No public clause cites this module.
use Rattle.std.specs.Prelude.{◌≡◌, ◌≢◌, ◌↔◌, ℕ, Bool, IsTrue, [], ◌∷◌, Option}
use Rattle.dnsv_names.specs.declared.number.RecordType.{RecordType}
use Rattle.dnsv_zones.specs.chains.NsecChain.{IsInBitmap}
use Rattle.dnsv_proof_forms.specs.records.Numbers.{number_at, numbers_of}
use Rattle.dnsv_proof_forms.specs.words.ChainSaid.{IsTypesAt}
use Rattle.dnsv_faults.specs.Rrsets.{AreRrsetFacts}
use Rattle.dnsv_lines.specs.declared.line.fault.denial.WhySource.{WhySource}
use Rattle.dnsv_chain.specs.Basis.{basis_by, Basis}
use Rattle.std.specs.declared.cmp.Ordering.TheVariants.{Less}
use Rattle.dnsv_names.specs.Name.{Labels, rightmost}
use Rattle.dnsv_zones.specs.forms.RecordWords.{RecordWords}
use Rattle.dnsv_zones.specs.zones.TypeNumbers.{dname}
use Rattle.dnsv_zones.specs.zones.Types.{IsClosed}
use Rattle.dnsv_canonical.specs.declared.number.RecordNumber.{RecordNumber}
use Rattle.dnsv_proof_forms.specs.records.Numbers.{number_cmp}
use Rattle.dnsv_remedies.specs.declared.facts.denial.ClosedFacts.{ClosedFacts}
use Rattle.dnsv_gaps.specs.Cases.{HasNone, IsHeld, why_held}
use Rattle.dnsv_gaps.specs.Parts.{AreFactsOf}
use Rattle.dnsv_gaps.specs.declared.asked.AskedQuestion.{AskedQuestion}
use Rattle.dnsv_gaps.specs.declared.sources.ZoneSource.{ZoneSource}

-- no closed record is at the name's so many labels
abbrev pub HasNoneClosedAt : RecordWords RecordNumber → Labels → ℕ → Type 0
HasNoneClosedAt said name labels = HasNone (said.TypesAt (rightmost name labels) IsClosed)

-- the closed record of lowest number there
pub record AreClosedFactsAt (basis : Basis) (said : RecordWords RecordNumber) (name : Labels) (labels : ℕ) (facts : ClosedFacts)
    : Type 0 where
  pub labels_are : facts.name ≡ labels
  pub is : said.TypesAt (rightmost name labels) IsClosed facts.number
  pub lowest : (other : RecordNumber) → said.TypesAt (rightmost name labels) IsClosed other → number_cmp other facts.number ≢ Less
  pub by_dname : IsTrue facts.is_dname ↔ said.TypesAt (rightmost name labels) (λ has. has dname) facts.number
  pub rrset : AreFactsOf basis (λ number. number ≡ facts.number) (facts.rrset ∷ [])

-- the number of the record at the place
abbrev pub number_in : ZoneSource → ℕ → RecordNumber
number_in source place = number_at (numbers_of source.records) place

-- the facts are those of the record at the place
pub record AreFactsAtPlace (question : AskedQuestion) (source : ZoneSource) (labels place : ℕ) (facts : ClosedFacts) : Type 0 where
  pub labels_are : facts.name ≡ labels
  pub number_is : facts.number ≡ number_in source place
  pub types : ℕ → Bool
  pub types_at : IsTypesAt source.records place types
  pub by_dname : IsTrue facts.is_dname ↔ IsInBitmap types dname
  pub rrset : AreRrsetFacts (basis_by question.facts.now) facts.number.rrset facts.rrset

-- what is in the way in the record at the place
pub record IsHeldBy (source : ZoneSource) (t place : ℕ) (told : WhySource) : Type 0 where
  pub types : ℕ → Bool
  pub types_at : IsTypesAt source.records place types
  pub held : Option RecordType
  pub is_held : IsHeld (IsInBitmap types) t held
  pub is_told : told ≡ why_held (number_in source place) held
