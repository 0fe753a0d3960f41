-- The lines of a name that may be unsigned: what shows it, and the case (RFC 4035 5.2).
use Rattle.std.specs.Prelude.{◌≡◌, ◌+◌, ◌≤◌, ℕ, List, [], ◌∷◌, Option, None, length, map}
use Rattle.std.specs.List.{AllZip}
use Rattle.dnsv_names.specs.Name.{Labels, SameName}
use Rattle.dnsv_records.specs.Ds.{IsDs}
use Rattle.dnsv_records.specs.declared.ds.Ds.{Ds}
use Rattle.dnsv_canonical.specs.Rrsets.{IsNumbered, ReceivedRrset}
use Rattle.dnsv_anchors.specs.Ds.{HasUsable}
use Rattle.dnsv_denial.specs.gathering.Evidence.{IsRecordAt}
use Rattle.dnsv_derivations.specs.Explained.{Setting}
use Rattle.dnsv_derivations.specs.derivations.OwnDerivations.{IsSignatureTold}
use Rattle.dnsv_derivations.specs.derivations.Derivations.{IsLowestSecured}
use Rattle.dnsv_derivations.specs.Following.Parts.{IsUnusableRecord}
use Rattle.dnsv_derivations.specs.Saying.{AreBoth}
use Rattle.dnsv_derivations.specs.derivations.Ways.{HasSecured, record_at}
use Rattle.dnsv_lines.specs.declared.line.Line.{Line}
use Rattle.dnsv_lines.specs.declared.line.Line.TheVariants as line
use Rattle.dnsv_lines.specs.declared.line.cut.Cut.{Cut}
use Rattle.dnsv_lines.specs.declared.line.cut.InsecureCase.{InsecureCase}
use Rattle.dnsv_lines.specs.declared.line.cut.InsecureCase.TheVariants as case
use Rattle.dnsv_lines.specs.declared.line.cut.UnusableDs.{UnusableDs}

-- the case is told, with the name at which a zone that isn't signed may begin
pub record IsCaseTold (kind : InsecureCase) (name : Labels) (zone : Option Labels) (before lines : List Line) : Type 0 where
  pub cut : Cut
  pub is_kind : cut.case ≡ kind
  pub is_name : cut.name ≡ name
  pub is_zone : cut.zone ≡ zone
  pub are : lines ≡ line.Case cut ∷ []

-- ---- no record of a DS RRset can be used

-- RRset k is a DS RRset of the name, which has a signature that is good under a trusted key and no record that can be
-- used
pub record IsUnusableSet (setting : Setting) (name : Labels) (k : ℕ) : Type 0 where
  pub ds : ReceivedRrset
  pub is_ds : IsNumbered setting.rrsets k ds
  pub rtype : ds.rtype ≡ 43
  pub owner : SameName ds.owner name
  pub secured : HasSecured setting k
  pub records : List Ds
  pub read : AllZip IsDs ds.rdata records
  pub none : ¬ HasUsable records

-- none with a lower number is such
pub record IsFirstUnusable (setting : Setting) (name : Labels) (k : ℕ) : Type 0 where
  pub is : IsUnusableSet setting name k
  pub first : (j : ℕ) → IsUnusableSet setting name j → k ≤ j

-- these are told of the records of RRset k from one place on, one after another: why they can't be used
abbrev pub AreToldFrom : List ReceivedRrset → ℕ → ℕ → List UnusableDs → Type 0
AreToldFrom rrsets k place [] = Unit {0}
AreToldFrom rrsets k place (unusable ∷ rest) =
    (unusable.number ≡ record_at k place) × IsUnusableRecord rrsets unusable × AreToldFrom rrsets k (place + 1) rest

-- that is told of its first n records
pub record AreFirstTold (rrsets : List ReceivedRrset) (k n : ℕ) (before lines : List Line) : Type 0 where
  pub told : List UnusableDs
  pub are : lines ≡ map (λ unusable. line.Unusable unusable) told
  pub count : length told ≡ n
  pub each : AreToldFrom rrsets k 1 told

-- and of all
pub record AreAllTold (rrsets : List ReceivedRrset) (k : ℕ) (before lines : List Line) : Type 0 where
  pub n : ℕ
  pub first : AreFirstTold rrsets k n before lines
  pub every : (place : ℕ) (rrset : ReceivedRrset) (rdata : List ℕ) → IsRecordAt rrsets (record_at k place) rrset rdata
      → place ≤ n

-- of the first such RRset its lowest signature is derived, the case is told, and then why its records can't be used
pub record IsUnusableTold (setting : Setting) (name : Labels) (before lines : List Line) : Type 0 where
  pub k : ℕ
  pub first : IsFirstUnusable setting name k
  pub s : ℕ
  pub lowest : IsLowestSecured setting k s
  pub told : AreBoth (IsSignatureTold setting (record { rrset = k; signature = s }))
      (AreBoth (IsCaseTold case.UnusableDs name None) (AreAllTold setting.rrsets k)) before lines
