-- What the line of a case says, and from which lines before it that follows (RFC 4035 5.2, RFC 5155 8.6, 8.8, 8.9).
use Rattle.std.specs.Prelude.{◌≡◌, ◌+◌, ℕ, List, Option, Some, None}
use Rattle.std.specs.List.{AllZip}
use Rattle.dnsv_names.specs.Name.{Labels, SameName, rightmost}
use Rattle.dnsv_records.specs.Ds.{IsDs}
use Rattle.dnsv_records.specs.declared.ds.Ds.{Ds}
use Rattle.dnsv_zones.specs.forms.Parts.{OptsOut, OptsOutNextCloser}
use Rattle.dnsv_canonical.specs.Rrsets.{IsNumbered, ReceivedRrset}
use Rattle.dnsv_anchors.specs.Ds.{HasUsable}
use Rattle.dnsv_proof_forms.specs.forms.Denials.{IsDelegationAt}
use Rattle.dnsv_denial.specs.gathering.EvidenceWords.{Chain, evidence_said}
use Rattle.dnsv_lines.specs.declared.line.cut.Cut.{Cut}
use Rattle.dnsv_lines.specs.declared.line.cut.InsecureCase.{InsecureCase}
use Rattle.dnsv_lines.specs.declared.line.cut.InsecureCase.TheVariants as case

-- ---- a zone's records

-- Records of a chain of the zone say so of the name, which has so many rightmost labels of a question's: a delegation
-- without DS is there; or Opt-Out may leave the name out, below the closest encloser or against an answer from the
-- wildcard there. `Secured k s` says that signature s of RRset k counts.
abbrev pub IsCaseOf : (ℕ → ℕ → Type 0) → List ReceivedRrset → Labels → InsecureCase → Labels → Type 0
IsCaseOf Secured rrsets zone case.UnsignedDelegation cut =
    (name : Labels) × (labels : ℕ) × (chain : Chain) × (cut ≡ rightmost name labels)
    × IsDelegationAt (evidence_said Secured rrsets zone chain) zone name labels
IsCaseOf Secured rrsets zone case.UnusableDs cut = ⊥
IsCaseOf Secured rrsets zone case.OptOut cut =
    (name : Labels) × (labels : ℕ) × (chain : Chain) × (cut ≡ rightmost name (labels + 1))
    × OptsOut (evidence_said Secured rrsets zone chain) zone name labels
IsCaseOf Secured rrsets zone case.OptOutWildcard cut =
    (name : Labels) × (labels : ℕ) × (chain : Chain) × (cut ≡ rightmost name (labels + 1))
    × OptsOutNextCloser (evidence_said Secured rrsets zone chain) zone name labels

-- ---- a DS RRset

-- a DS RRset of the name, of which signatures count, has no record that can be used
pub record IsUnusableAt (Signed : ℕ → Type 0) (rrsets : List ReceivedRrset) (cut : Labels) : Type 0 where
  pub k : ℕ
  pub ds : ReceivedRrset
  pub is_ds : IsNumbered rrsets k ds
  pub rtype : ds.rtype ≡ 43
  pub owner : SameName ds.owner cut
  pub signed : Signed k
  pub records : List Ds
  pub read : AllZip IsDs ds.rdata records
  pub none : ¬ HasUsable records

-- ---- the line

-- What the case says is so: where it names a zone, by records of that; where it names none, of a DS RRset. `Said k s`
-- says that a line before shows signature s of RRset k to be good, and `Signed k` that one shows some.
abbrev pub IsCaseBy : (ℕ → ℕ → Type 0) → (ℕ → Type 0) → List ReceivedRrset → InsecureCase → Labels → Option Labels → Type 0
IsCaseBy Said Signed rrsets kind cut (Some named) =
    (zone : Labels) × SameName named zone × IsCaseOf Said rrsets zone kind cut
IsCaseBy Said Signed rrsets kind cut None = (kind ≡ case.UnusableDs) × IsUnusableAt Signed rrsets cut

abbrev pub FollowsCase : (ℕ → ℕ → Type 0) → (ℕ → Type 0) → List ReceivedRrset → Cut → Type 0
FollowsCase Said Signed rrsets cut = IsCaseBy Said Signed rrsets cut.case cut.name cut.zone
