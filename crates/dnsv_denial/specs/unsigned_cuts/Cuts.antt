-- Where the evidence shows that names may be unsigned from a name on (RFC 4035 5.2, RFC 5155 8.6, 8.8, 8.9, 9.2).
use Rattle.std.specs.Prelude.{◌≡◌, ◌⊎◌, ◌+◌, ◌<◌, ◌≤◌, ℕ, List, length}
use Rattle.std.specs.List.{AllZip}
use Rattle.dnsv_names.specs.Name.{Labels, SameName, rightmost}
use Rattle.dnsv_records.specs.Ds.{IsDs}
use Rattle.dnsv_records.specs.declared.ds.Ds.{Ds}
use Rattle.dnsv_zones.specs.forms.Forms.{IsAbove, UnsignedCutForm}
use Rattle.dnsv_zones.specs.forms.Parts.{OptsOut}
use Rattle.dnsv_zones.specs.forms.RecordWords.{words}
use Rattle.dnsv_canonical.specs.Rrsets.{IsNumbered, ReceivedRrset}
use Rattle.dnsv_anchors.specs.Ds.{HasUsable}
use Rattle.dnsv_denial.specs.gathering.EvidenceWords.{Chain, evidence_said}
use Rattle.dnsv_canonical.specs.declared.number.RecordNumber.{RecordNumber}

-- ---- a delegation without DS

-- a record of a zone shows the name's so many rightmost labels to be a delegation without DS
abbrev pub IsUnsignedDelegationCut : (ℕ → ℕ → Type 0) → List ReceivedRrset → Labels → ℕ → Type 0
IsUnsignedDelegationCut Secured rrsets name labels =
    (labels ≤ length name) × (apex : ℕ) × (apex ≤ length name) × (chain : Chain)
    × UnsignedCutForm (words (evidence_said Secured rrsets (rightmost name apex) chain)) (rightmost name apex) name
    (rightmost name labels)

-- ---- a delegation whose DS records can't be used

-- a secured DS RRset of the name's so many rightmost labels has no usable record
pub record IsUnusableDsCut (Secured : ℕ → ℕ → Type 0) (rrsets : List ReceivedRrset) (name : Labels) (labels : ℕ)
    : Type 0 where
  pub at_or_above : labels ≤ length name
  pub k : ℕ
  pub rrset : ReceivedRrset
  pub is_rrset : IsNumbered rrsets k rrset
  pub rtype : rrset.rtype ≡ 43
  pub owner : SameName rrset.owner (rightmost name labels)
  pub signature : ℕ
  pub secured : Secured k signature
  pub records : List Ds
  pub read : AllZip IsDs rrset.rdata records
  pub none : ¬ HasUsable records

-- ---- Opt-Out

-- An unsigned delegation may be left out by a chain of some zone, for the closest encloser of so many labels.
abbrev pub IsOptOutCut : (ℕ → ℕ → Type 0) → List ReceivedRrset → Labels → ℕ → Type 0
IsOptOutCut Secured rrsets name labels =
    (apex : ℕ) × (apex ≤ length name) × (chain : Chain)
    × OptsOut (evidence_said Secured rrsets (rightmost name apex) chain) (rightmost name apex) name labels

-- ---- the cut

-- it holds of the number, and of none below
pub record IsFewest (Holds : ℕ → Type 0) (labels : ℕ) : Type 0 where
  pub holds : Holds labels
  pub fewest : (fewer : ℕ) → fewer < labels → ¬ Holds fewer

-- it holds of the number, and of none above
pub record IsMost (Holds : ℕ → Type 0) (labels : ℕ) : Type 0 where
  pub holds : Holds labels
  pub most : (more : ℕ) → labels < more → ¬ Holds more

-- From this name on the question's name may be unsigned: the highest delegation without DS; if there is none, the
-- highest with DS records of which none can be used; if there is none, the next closer name of the closest encloser
-- with most labels where an unsigned delegation may be left out.
pub data IsUnsignedCut (Secured : ℕ → ℕ → Type 0) (rrsets : List ReceivedRrset) (name : Labels) : Labels → Type 0 where
  no_ds : (labels : ℕ) → IsFewest (IsUnsignedDelegationCut Secured rrsets name) labels
      → IsUnsignedCut Secured rrsets name (rightmost name labels)
  no_usable_ds : (labels : ℕ) → ((any : ℕ) → ¬ IsUnsignedDelegationCut Secured rrsets name any)
      → IsFewest (IsUnusableDsCut Secured rrsets name) labels
      → IsUnsignedCut Secured rrsets name (rightmost name labels)
  opt_out : (labels : ℕ) → ((any : ℕ) → ¬ IsUnsignedDelegationCut Secured rrsets name any)
      → ((any : ℕ) → ¬ IsUnusableDsCut Secured rrsets name any) → IsMost (IsOptOutCut Secured rrsets name) labels
      → IsUnsignedCut Secured rrsets name (rightmost name (labels + 1))

-- there is one
abbrev pub HasUnsignedCut : (ℕ → ℕ → Type 0) → List ReceivedRrset → Labels → Type 0
HasUnsignedCut Secured rrsets name =
    (labels : ℕ) × (IsUnsignedDelegationCut Secured rrsets name labels ⊎ IsUnusableDsCut Secured rrsets name labels
    ⊎ IsOptOutCut Secured rrsets name labels)

-- ---- an answer from a wildcard

-- An unsigned delegation may stand against an answer of the zone from the wildcard below the name's so many rightmost
-- labels: a record with the Opt-Out flag covers the next closer name (RFC 5155 8.8).
pub record HasOptedOutNextCloser
    (Secured : ℕ → ℕ → Type 0) (rrsets : List ReceivedRrset) (name : Labels) (labels : ℕ) (zone : Labels)
    : Type 0 where
  pub above : IsAbove zone name labels
  pub chain : Chain
  pub covering : RecordNumber
  pub opted_out : (evidence_said Secured rrsets zone chain).OptedOut (rightmost name (labels + 1)) covering
