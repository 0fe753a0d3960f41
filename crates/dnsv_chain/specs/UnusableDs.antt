-- DS RRsets of which no record can be used (RFC 4035 5.2).
use Rattle.std.specs.Prelude.{◌≡◌, ℕ, List}
use Rattle.std.specs.List.{AllZip}
use Rattle.dnsv_names.specs.Name.{Labels, IsAtOrBelow}
use Rattle.dnsv_records.specs.Ds.{IsDs}
use Rattle.dnsv_records.specs.declared.ds.Ds.{Ds}
use Rattle.dnsv_canonical.specs.Rrsets.{ReceivedRrset}
use Rattle.dnsv_anchors.specs.Ds.{HasUsable}

-- the RRset is a secured DS RRset at or above the name, of which no record is usable
pub record IsUnusableDs (Secured : ℕ → Type 0) (rrset : ReceivedRrset) (name : Labels) : Type 0 where
  pub above : IsAtOrBelow name rrset.owner
  pub rtype : rrset.rtype ≡ 43
  pub signature : ℕ
  pub secured : Secured signature
  pub records : List Ds
  pub read : AllZip IsDs rrset.rdata records
  pub none : ¬ HasUsable records
