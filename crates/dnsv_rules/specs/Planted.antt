-- What a text lacks that doesn't check though it says that something is proved.
use Rattle.std.specs.Prelude.{ℕ, List}
use Rattle.dnsv_names.specs.Name.{Labels}
use Rattle.dnsv_zones.specs.chains.Nsec3Chain.{Nsec3Record}
use Rattle.dnsv_zones.specs.chains.NsecChain.{IsInBitmap, NsecRecord}
use Rattle.dnsv_canonical.specs.Rrsets.{ReceivedRrset}
use Rattle.dnsv_canonical.specs.declared.number.RecordNumber.{RecordNumber}
use Rattle.dnsv_denial.specs.gathering.Evidence.{IsNsecOf, IsNsec3Of}
use Rattle.dnsv_lines.specs.declared.line.denial.Form.{Form}
use Rattle.dnsv_lines.specs.declared.line.denial.Form.TheVariants as form
use Rattle.dnsv_lines.specs.declared.line.denial.Relation.{Relation}
use Rattle.dnsv_lines.specs.declared.line.denial.Relation.TheVariants as relation

-- the form speaks of a closest encloser, and of a next closer name that isn't there (RFC 5155 8.3)
abbrev pub NeedsEncloser : Form → Type 0
NeedsEncloser form.NoName = Unit {0}
NeedsEncloser form.NoData3 = Unit {0}
NeedsEncloser form.NoData4 = Unit {0}
NeedsEncloser _ = ⊥

-- the part shows its name to be a node
abbrev pub ShowsNode : Relation → Type 0
ShowsNode relation.Matched = Unit {0}
ShowsNode relation.Exists = Unit {0}
ShowsNode relation.Apex = Unit {0}
ShowsNode _ = ⊥

-- the bitmap of the NSEC or NSEC3 record with the number has the type
pub data HoldsType (rrsets : List ReceivedRrset) (number : RecordNumber) (t : ℕ) : Type 0 where
  by_nsec : (nsec : NsecRecord) → IsNsecOf rrsets number nsec → IsInBitmap nsec.types t → HoldsType rrsets number t
  by_nsec3 : (zone : Labels) (nsec3 : Nsec3Record) → IsNsec3Of rrsets zone number nsec3 → IsInBitmap nsec3.types t
      → HoldsType rrsets number t
