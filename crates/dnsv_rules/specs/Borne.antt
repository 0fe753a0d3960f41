-- When the lines of a text bear out what stands in front of them: the verdict at the way's end, and the aliases that lead
-- there. That what they say is so is another matter: see when a text checks.
use Rattle.std.specs.Prelude.{◌≡◌, ◌⊎◌, ℕ, List, Contains}
use Rattle.dnsv_names.specs.Name.{Labels, SameName, rightmost}
use Rattle.dnsv_names.specs.Tree.{wildcard_of}
use Rattle.dnsv_records.specs.declared.rrsig.Rrsig.{Rrsig}
use Rattle.dnsv_zones.specs.forms.Forms.{NoCloserForm}
use Rattle.dnsv_zones.specs.forms.RecordWords.{words}
use Rattle.dnsv_zones.specs.zones.Lookup.{IsLookup}
use Rattle.dnsv_zones.specs.zones.Lookup.Answer.{Held}
use Rattle.dnsv_zones.specs.zones.TypeNumbers.{cname}
use Rattle.dnsv_zones.specs.zones.Zone.{Holds, Zone}
use Rattle.dnsv_canonical.specs.Rrsets.{ReceivedRrset}
use Rattle.dnsv_canonical.specs.SignedData.{IsExpanded}
use Rattle.dnsv_canonical.specs.declared.number.RecordNumber.{RecordNumber}
use Rattle.dnsv_denial.specs.gathering.Evidence.{IsSecuredBy}
use Rattle.dnsv_denial.specs.proving.FirstProof.{ProofRecords}
use Rattle.dnsv_denial.specs.unsigned_cuts.CutMeaning.{HasRecord}
use Rattle.dnsv_denial.specs.gathering.EvidenceWords.{Chain}
use Rattle.dnsv_derivations.specs.Explained.{Setting}
use Rattle.dnsv_lines.specs.declared.line.Line.{Line}
use Rattle.dnsv_lines.specs.declared.line.Line.TheVariants as line
use Rattle.dnsv_lines.specs.declared.line.cut.Cut.{Cut}
use Rattle.dnsv_lines.specs.declared.line.denial.Form.{Form}
use Rattle.dnsv_lines.specs.declared.line.denial.Form.TheVariants as form
use Rattle.dnsv_lines.specs.declared.line.denial.Proof.{Proof}
use Rattle.dnsv_verdict.specs.Secure.{IsSecuredAt}
use Rattle.dnsv_verdict.specs.declared.verdict.Verdict.{Verdict}
use Rattle.dnsv_verdict.specs.declared.verdict.Verdict.TheVariants.{SecureAnswer, SecureAlias, SecureNoName, SecureNoData, Insecure}
use Rattle.dnsv_rules.specs.Checked.{Asked}
use Rattle.dnsv_rules.specs.Told.{IsShownGood, shown_said, told_words}
use Rattle.dnsv_rules.specs.Truth.{IsOfChain, IsPartsRecord, IsShownSecured}

-- ---- an RRset

-- no wildcard is behind the signature, or part lines tell by records of its signer that no closer name is there
-- (RFC 4035 5.3.4, RFC 5155 8.8)
abbrev pub HoldsByLines : List ReceivedRrset → List Line → Labels → ReceivedRrset → Rrsig → Type 0
HoldsByLines rrsets lines name rrset rrsig =
    (¬ IsExpanded rrset.owner rrsig)
    ⊎ ((chain : Chain) × NoCloserForm (words (told_words (shown_said rrsets lines rrsig.signer chain) lines)) rrsig.signer
    name rrsig.labels)

-- RRset k has the name and the type, a line calls its signature s good, and it holds for the name by that
abbrev pub IsSetBorne : List ReceivedRrset → List Line → Labels → ℕ → ℕ → ℕ → Type 0
IsSetBorne rrsets lines name t =
    IsSecuredAt (IsShownGood lines) rrsets name
    (λ rrset rrsig. (rrset.rtype ≡ t) × HoldsByLines rrsets lines name rrset rrsig)

-- ---- a verdict

-- A proof line has such a form and the denial's zone; and of each record that carries the denial a part line tells, and a
-- line calls a signature of its RRset good, which that zone made and no wildcard is behind (RFC 4035 5.4, RFC 5155 8).
pub record IsDenialBorne (rrsets : List ReceivedRrset) (lines : List Line) (Such : Form → Type 0) (denial : ProofRecords)
    : Type 0 where
  pub proof : Proof
  pub among : Contains lines (line.Proof proof)
  pub such : Such proof.form
  pub zone : SameName proof.zone denial.zone
  pub signed : (number : RecordNumber) → Contains denial.records number
      → IsSecuredBy (IsShownGood lines) rrsets denial.zone number.rrset
  pub told : (number : RecordNumber) → Contains denial.records number → IsPartsRecord lines number

-- the form denies a type
abbrev pub DeniesType : Form → Type 0
DeniesType form.NoData1 = Unit {0}
DeniesType form.NoData2 = Unit {0}
DeniesType form.NoData3 = Unit {0}
DeniesType form.NoData4 = Unit {0}
DeniesType _ = ⊥

-- a case line has the name
abbrev pub HasCase : List Line → Labels → Type 0
HasCase lines name = (told : Cut) × Contains lines (line.Case told) × SameName told.name name

-- An answer and an alias are borne out by the RRset and its signature, a denial by a proof in a form of its own with the
-- records that carry it, and from which name on the name may be unsigned by a case. What needs answers, and what isn't
-- proved, asks for no line.
abbrev pub BearsOut : List ReceivedRrset → Asked → List Line → Verdict → Type 0
BearsOut rrsets asked lines (SecureAnswer k s) = IsSetBorne rrsets lines asked.name asked.rtype k s
BearsOut rrsets asked lines (SecureAlias k s) = IsSetBorne rrsets lines asked.name cname k s
BearsOut rrsets asked lines (SecureNoName proof) = IsDenialBorne rrsets lines (λ each. each ≡ form.NoName) proof
BearsOut rrsets asked lines (SecureNoData proof) = IsDenialBorne rrsets lines DeniesType proof
BearsOut rrsets asked lines (Insecure cut) = HasCase lines cut
BearsOut rrsets asked lines _ = Unit {0}

-- ---- what that means

-- A record of a chain of the zone, which signed it, as lines show, one of them a part line that tells it, such that each zone
-- that has it in its chain answers for the name from the wildcard below so many of its labels, whatever type is there.
pub record IsOfWildcard (setting : Setting) (lines : List Line) (zone name : Labels) (labels : ℕ) : Type 0 where
  pub chain : Chain
  pub number : RecordNumber
  pub of_chain : IsOfChain (IsShownSecured setting lines) setting.rrsets zone chain number
  pub told : IsPartsRecord lines number
  pub means : (its : Zone) (t : ℕ) → HasRecord setting.rrsets zone number its
      → Holds its (wildcard_of (rightmost name labels)) t
      → IsLookup its name t (Held (wildcard_of (rightmost name labels)))

-- RRset k has the name and the type, its signature s is good under a trusted key of its signer, and no wildcard is behind
-- it, or it is what the signer's zone answers for the name from the wildcard
abbrev pub IsSetTrue : Setting → List Line → Labels → ℕ → ℕ → ℕ → Type 0
IsSetTrue setting lines name t =
    IsSecuredAt (IsShownSecured setting lines) setting.rrsets name
    (λ rrset rrsig. (rrset.rtype ≡ t)
    × ((¬ IsExpanded rrset.owner rrsig) ⊎ IsOfWildcard setting lines rrsig.signer name rrsig.labels))
