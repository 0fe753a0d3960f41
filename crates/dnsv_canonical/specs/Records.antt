-- How an RRset keeps its records as they were read. No public clause cites this module.
use Rattle.std.specs.Prelude.{◌≡◌, ◌≢◌, ℕ, List}
use Rattle.std.specs.List.{AllZip}
use Rattle.dnsv_records.specs.declared.rrsig.Rrsig.{Rrsig}
use Rattle.dnsv_records.specs.Dnskey.{IsDnskey}
use Rattle.dnsv_records.specs.Ds.{IsDs}
use Rattle.dnsv_records.specs.Nsec.{IsNsec}
use Rattle.dnsv_records.specs.Nsec3.{IsNsec3}
use Rattle.dnsv_records.specs.Rrsig.{IsRrsig}
use Rattle.dnsv_canonical.specs.declared.records.Records.{Records}
use Rattle.dnsv_canonical.specs.declared.records.Records.TheVariants.{Dnskeys, DsRecords, Nsecs, Nsec3s, Unread}
use Rattle.dnsv_canonical.specs.Rdata.{IsWellFormed}
use Rattle.dnsv_canonical.specs.Rrsets.{ReceivedRrset}

-- the records are those of RDATA of the type, in order; of other types than DS, NSEC, DNSKEY and NSEC3 none are read
abbrev pub AreRecords : ℕ → List (List ℕ) → Records → Type 0
AreRecords rtype rdata (Dnskeys keys) = (rtype ≡ 48) × AllZip IsDnskey rdata keys.items
AreRecords rtype rdata (DsRecords digests) = (rtype ≡ 43) × AllZip IsDs rdata digests.items
AreRecords rtype rdata (Nsecs nsecs) = (rtype ≡ 47) × AllZip IsNsec rdata nsecs.items
AreRecords rtype rdata (Nsec3s nsec3s) = (rtype ≡ 50) × AllZip IsNsec3 rdata nsec3s.items
AreRecords rtype rdata Unread = (rtype ≢ 43) × (rtype ≢ 47) × (rtype ≢ 48) × (rtype ≢ 50)

-- the RRset is as each RRset of a capture is, and these are its records and signatures
pub record IsKept (rrset : ReceivedRrset) (records : Records) (signatures : List Rrsig) : Type 0 where
  pub well_formed : IsWellFormed rrset
  pub read : AreRecords rrset.rtype rrset.rdata records
  pub signed : AllZip IsRrsig rrset.signatures signatures
