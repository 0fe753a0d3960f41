-- A denial, and a case, that the lines of a text bear out are so where the text checks.
use Rattle.std.proofs.Common.{◌≡◌, ℕ, List, [], subst}
use Rattle.std.specs.List.{Contains}
use Rattle.dnsv_names.specs.Name.{IsAtOrBelow, Labels, SameName, rightmost}
use Rattle.dnsv_names.specs.Tree.{wildcard_of}
use Rattle.dnsv_names.specs.Tree.TreeLaws.{at_or_below_trans, same_at_or_below}
use Rattle.dnsv_zones.specs.zones.Lookup.{IsLookup}
use Rattle.dnsv_zones.specs.zones.Lookup.Answer.{NoData, NoName}
use Rattle.dnsv_zones.specs.zones.Zone.{Zone}
use Rattle.dnsv_canonical.specs.Rrsets.{ReceivedRrset}
use Rattle.dnsv_canonical.specs.declared.number.RecordNumber.{RecordNumber}
use Rattle.dnsv_chain.specs.Trusted.{IsSecured}
use Rattle.dnsv_denial.specs.gathering.Evidence.{IsSecuredBy}
use Rattle.dnsv_denial.specs.proving.FirstProof.{ProofRecords}
use Rattle.dnsv_denial.specs.proving.ProofMeaning.{HasProofWithoutCollision}
use Rattle.dnsv_derivations.specs.Explained.{Setting}
use Rattle.dnsv_derivations.specs.Following.Cases.{IsCaseBy}
use Rattle.dnsv_derivations.specs.derivations.Ways.{HasSecured}
use Rattle.dnsv_lines.specs.declared.line.Line.{Line}
use Rattle.dnsv_lines.specs.declared.line.Line.TheVariants as line
use Rattle.dnsv_lines.specs.declared.line.cut.Cut.{Cut}
use Rattle.dnsv_lines.specs.declared.line.denial.Form.{Form}
use Rattle.dnsv_lines.specs.declared.line.denial.Form.TheVariants as form
use Rattle.dnsv_lines.specs.declared.line.denial.Proof.{Proof}
use Rattle.dnsv_explain_laws.proofs.holding.FollowingLemmas.{all_true, no_lines}
use Rattle.dnsv_rules.specs.Borne.{DeniesType, HasCase, IsDenialBorne}
use Rattle.dnsv_rules.specs.Checked.{Asked, Checks}
use Rattle.dnsv_rules.specs.Truth.{HasIts, IsDenied, IsPartsRecord, IsShownSecured, IsToldOptedOut, IsTrueProof, SaysOf}
use Rattle.dnsv_rules.proofs.truth.RecordLemmas.{secured_here}
use Rattle.dnsv_rules.proofs.truth.TrueLemmas.{proof_true}

-- ---- what a form says

module _ (rrsets : List ReceivedRrset) (asked : Asked) (name : Labels) (labels : ℕ) (records : ProofRecords) (OptedOut : Labels → Type 0) where
  -- of a name of the way, of which it is
  abbrev pub Means : Form → Type 0
  Means which =
      IsDenied which asked name
      × ((zone : Zone) → HasIts which rrsets name records zone → SaysOf which name asked.rtype labels OptedOut zone)

  -- of the name asked, that there is no such name
  abbrev NoNameAt : Labels → Type 0
  NoNameAt at = (zone : Zone) (any : ℕ) → HasProofWithoutCollision rrsets at records zone → IsLookup zone at any NoName

  pub no_name_by : Means form.NoName → NoNameAt asked.name
  no_name_by means = subst NoNameAt means.0 (λ zone any has. (means.1 zone has).1 any)

  -- of the name and the type asked, that there is no data
  abbrev NoDataAt : Labels → Type 0
  NoDataAt at =
      (zone : Zone) → HasProofWithoutCollision rrsets at records zone → (source : Labels) × IsLookup zone at asked.rtype (NoData source)

  pub no_data_by : (which : Form) → DeniesType which → Means which → NoDataAt asked.name
  no_data_by form.NoData1 denies means = subst NoDataAt means.0 (λ zone has. (name, means.1 zone has))
  no_data_by form.NoData2 denies means = subst NoDataAt means.0 (λ zone has. (name, means.1 zone has))
  no_data_by form.NoData3 denies means = subst NoDataAt means.0 (λ zone has. (wildcard_of (rightmost name labels), (means.1 zone has).1))
  no_data_by form.NoData4 denies means = subst NoDataAt means.0 (λ zone has. (wildcard_of (rightmost name labels), (means.1 zone has).1))
  no_data_by other denies means = absurd denies

-- ---- a text that checks

module _ (setting : Setting) (asked : Asked) (lines : List Line) (checks : Checks setting asked lines) where
  module _ (proof : Proof) (is : IsTrueProof setting asked lines proof) where
    abbrev its : ProofRecords
    its = record { zone = proof.zone; records = is.records }

    abbrev MeansIts : Form → Type 0
    MeansIts which =
        Means setting.rrsets asked is.name is.labels its (IsToldOptedOut setting.rrsets lines proof.zone is.chain is.records) which

    its_means : MeansIts proof.form
    its_means = (is.denied, is.means)

    no_name_of : proof.form ≡ form.NoName
        → (zone : Zone) (any : ℕ) → HasProofWithoutCollision setting.rrsets asked.name its zone → IsLookup zone asked.name any NoName
    no_name_of same =
        no_name_by setting.rrsets asked is.name is.labels its (IsToldOptedOut setting.rrsets lines proof.zone is.chain is.records)
        (subst MeansIts same its_means)

    no_data_of : DeniesType proof.form
        → (zone : Zone) → HasProofWithoutCollision setting.rrsets asked.name its zone
        → (source : Labels) × IsLookup zone asked.name asked.rtype (NoData source)
    no_data_of denies =
        no_data_by setting.rrsets asked is.name is.labels its (IsToldOptedOut setting.rrsets lines proof.zone is.chain is.records) proof.form denies
        its_means

  -- the proof that bears a denial out is true
  its_proof : (Such : Form → Type 0) (denial : ProofRecords) (borne : IsDenialBorne setting.rrsets lines Such denial)
      → IsTrueProof setting asked lines borne.proof
  its_proof Such denial borne = proof_true setting asked lines borne.proof checks borne.among

  pub no_name_so : (denial : ProofRecords) → IsDenialBorne setting.rrsets lines (λ each. each ≡ form.NoName) denial
      → (proof : Proof) × SameName proof.zone denial.zone × (is : IsTrueProof setting asked lines proof)
      × ((zone : Zone) (any : ℕ) → HasProofWithoutCollision setting.rrsets asked.name (record { zone = proof.zone; records = is.records }) zone
      → IsLookup zone asked.name any NoName)
  no_name_so denial borne =
      let is = its_proof (λ each. each ≡ form.NoName) denial borne in (borne.proof, borne.zone, is, no_name_of borne.proof is borne.such)

  pub no_data_so : (denial : ProofRecords) → IsDenialBorne setting.rrsets lines DeniesType denial
      → (proof : Proof) × SameName proof.zone denial.zone × (is : IsTrueProof setting asked lines proof)
      × ((zone : Zone) → HasProofWithoutCollision setting.rrsets asked.name (record { zone = proof.zone; records = is.records }) zone
      → (source : Labels) × IsLookup zone asked.name asked.rtype (NoData source))
  no_data_so denial borne =
      let is = its_proof DeniesType denial borne in (borne.proof, borne.zone, is, no_data_of borne.proof is borne.such)

  -- and each record that carries it is told by a part line and signed by the zone
  pub record_so : (Such : Form → Type 0) (denial : ProofRecords) → IsDenialBorne setting.rrsets lines Such denial → (number : RecordNumber)
      → Contains denial.records number
      → IsPartsRecord lines number × IsSecuredBy (IsShownSecured setting lines) setting.rrsets denial.zone number.rrset
  record_so Such denial borne number there = (
    borne.told number there,
    secured_here setting lines checks.follows denial.zone number.rrset (borne.signed number there),
  )

  -- ---- cases

  pub case_so : (cut : Labels) → HasCase lines cut
      → (told : Cut) × SameName told.name cut × IsAtOrBelow asked.name cut
      × IsCaseBy (IsSecured setting.meaning setting.moment setting.rrsets setting.anchors) (HasSecured setting) setting.rrsets told.case told.name
      told.zone
  case_so cut has = (
    has.0,
    has.2,
    at_or_below_trans asked.name has.0.name cut (checks.is_so (line.Case has.0) has.1) (same_at_or_below has.0.name cut has.2),
    all_true setting [] lines (no_lines setting) checks.follows (line.Case has.0) has.1,
  )
