-- What it means for zones that names may be unsigned from a name on (RFC 4035 5.2, RFC 5155 8.6, 8.8, 8.9, 9.2).
use Rattle.std.specs.Prelude.{◌⊎◌, ◌+◌, ℕ, List, [], ◌∷◌}
use Rattle.dnsv_names.specs.Name.{Labels, IsAtOrBelow, rightmost}
use Rattle.dnsv_names.specs.Order.{IsBelow}
use Rattle.dnsv_names.specs.Tree.{wildcard_of}
use Rattle.dnsv_zones.specs.chains.Nsec3Chain.{IsUnsignedEnd}
use Rattle.dnsv_zones.specs.forms.Forms.{IsAbove}
use Rattle.dnsv_zones.specs.forms.RecordWords.{RecordWords}
use Rattle.dnsv_zones.specs.zones.Types.{IsUnsignedDelegation}
use Rattle.dnsv_zones.specs.zones.Zone.{Zone, Holds, IsNode, IsClosedAt}
use Rattle.dnsv_canonical.specs.Rrsets.{ReceivedRrset}
use Rattle.dnsv_denial.specs.proving.FirstProof.{ProofRecords}
use Rattle.dnsv_denial.specs.proving.ProofMeaning.{HasProofRecords, HasProofWithoutCollision}
use Rattle.dnsv_denial.specs.unsigned_cuts.Cuts.{IsUnsignedDelegationCut, IsUnusableDsCut}
use Rattle.dnsv_denial.specs.gathering.EvidenceWords.{Chain, evidence_said}
use Rattle.dnsv_canonical.specs.declared.number.RecordNumber.{RecordNumber}

-- the record alone
abbrev pub alone : Labels → RecordNumber → ProofRecords
alone apex number = record { zone = apex; records = number ∷ [] }

-- the zone has this name, and this record in its chain
abbrev pub HasRecord : List ReceivedRrset → Labels → RecordNumber → Zone → Type 0
HasRecord rrsets apex number zone = HasProofRecords rrsets (alone apex number) zone

-- the same, and for NSEC3 no node of the zone has the hash of another name that a question of the name asks for
abbrev pub HasRecordWithoutCollision : List ReceivedRrset → Labels → Labels → RecordNumber → Zone → Type 0
HasRecordWithoutCollision rrsets name apex number zone = HasProofWithoutCollision rrsets name (alone apex number) zone

-- ---- a delegation without DS

-- A record shows the name to be a delegation without DS, which it is in each zone that has the record in its chain.
pub record IsShownUnsigned (Secured : ℕ → ℕ → Type 0) (rrsets : List ReceivedRrset) (name cut : Labels)
    : Type 0 where
  pub apex : Labels
  pub at_or_above : IsAtOrBelow name cut
  pub below_apex : IsBelow cut apex
  pub chain : Chain
  pub number : RecordNumber
  pub shown : (evidence_said Secured rrsets apex chain).TypesAt cut IsUnsignedDelegation number
  pub meaning : (zone : Zone) → HasRecordWithoutCollision rrsets name apex number zone
      → IsUnsignedDelegation (Holds zone cut)

-- ---- Opt-Out

-- A record that says so covers the name, which is an unsigned end, if it is a node at all, in each zone that has the
-- record in its chain.
pub record IsCoveredEnd
    (rrsets : List ReceivedRrset) (apex : Labels) (Says : Labels → RecordNumber → Type 0) (covered : Labels)
    : Type 0 where
  pub number : RecordNumber
  pub said : Says covered number
  pub meaning : (zone : Zone) → HasRecord rrsets apex number zone → IsNode zone covered → IsUnsignedEnd zone covered

-- the record says that the name is absent, or has the Opt-Out flag and covers it
abbrev pub IsCover : RecordWords RecordNumber → Labels → RecordNumber → Type 0
IsCover said name number = said.Absent name number ⊎ said.OptedOut name number

-- A record that says so shows the name to be a node, with no delegation and no DNAME, which it is in each zone that has
-- the record in its chain.
pub record IsShownEncloser
    (rrsets : List ReceivedRrset) (name apex : Labels) (Says : Labels → RecordNumber → Type 0) (encloser : Labels)
    : Type 0 where
  pub number : RecordNumber
  pub said : Says encloser number
  pub node : (zone : Zone) → HasRecordWithoutCollision rrsets name apex number zone → IsNode zone encloser
  pub not_closed : (zone : Zone) → HasRecordWithoutCollision rrsets name apex number zone → ¬ IsClosedAt zone encloser

-- By a chain of a zone at or above the name, the name's so many labels are shown to be a node, the next closer name is
-- covered, and it or the wildcard is so by a record with the Opt-Out flag.
pub record MayLeaveOut (Secured : ℕ → ℕ → Type 0) (rrsets : List ReceivedRrset) (name : Labels) (labels : ℕ)
    : Type 0 where
  pub apex : Labels
  pub above : IsAbove apex name labels
  pub chain : Chain
  pub encloser : IsShownEncloser rrsets name apex ((evidence_said Secured rrsets apex chain).Encloser)
      (rightmost name labels)
  pub next_closer : IsCoveredEnd rrsets apex (IsCover (evidence_said Secured rrsets apex chain))
      (rightmost name (labels + 1))
  pub opted_out : IsCoveredEnd rrsets apex ((evidence_said Secured rrsets apex chain).OptedOut)
      (rightmost name (labels + 1))
      ⊎ IsCoveredEnd rrsets apex ((evidence_said Secured rrsets apex chain).OptedOut)
      (wildcard_of (rightmost name labels))

-- ---- the cut

-- what the cut is, by each of the reasons that it can have
pub data MeansCut (Secured : ℕ → ℕ → Type 0) (rrsets : List ReceivedRrset) (name : Labels) : Labels → Type 0 where
  no_ds : (cut : Labels) → IsShownUnsigned Secured rrsets name cut → MeansCut Secured rrsets name cut
  no_usable_ds : (labels : ℕ) → ((any : ℕ) → ¬ IsUnsignedDelegationCut Secured rrsets name any)
      → IsUnusableDsCut Secured rrsets name labels → MeansCut Secured rrsets name (rightmost name labels)
  opt_out : (labels : ℕ) → ((any : ℕ) → ¬ IsUnsignedDelegationCut Secured rrsets name any)
      → ((any : ℕ) → ¬ IsUnusableDsCut Secured rrsets name any) → MayLeaveOut Secured rrsets name labels
      → MeansCut Secured rrsets name (rightmost name (labels + 1))
