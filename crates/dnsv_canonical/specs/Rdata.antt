-- What is true of each RRset of a capture, and of its RDATA.
use Rattle.std.specs.Prelude.{◌≡◌, ℕ, ◌<◌, ◌≤◌, ◌^◌, ◌==◌, if◌then◌else◌, IsTrue, List, [], length}
use Rattle.std.specs.List.{AllByRecursion}
use Rattle.dnsv_names.specs.Name.{IsName}
use Rattle.dnsv_names.specs.Octets.{AreOctets}
use Rattle.dnsv_message.specs.Parts.{HasParts}
use Rattle.dnsv_records.specs.declared.dnskey.Dnskey.{Dnskey}
use Rattle.dnsv_records.specs.declared.ds.Ds.{Ds}
use Rattle.dnsv_records.specs.declared.nsec.Nsec.{Nsec}
use Rattle.dnsv_records.specs.declared.nsec3.Nsec3.{Nsec3}
use Rattle.dnsv_records.specs.declared.rrsig.Rrsig.{Rrsig}
use Rattle.dnsv_records.specs.Dnskey.{IsDnskey}
use Rattle.dnsv_records.specs.Ds.{IsDs}
use Rattle.dnsv_records.specs.Nsec.{IsNsec}
use Rattle.dnsv_records.specs.Nsec3.{IsNsec3}
use Rattle.dnsv_records.specs.Rrsig.{IsRrsig}
use Rattle.dnsv_canonical.specs.Rrsets.{ReceivedRrset, forms_rrsets}

-- the RDATA is some DS, RRSIG, NSEC, DNSKEY or NSEC3, where that is its type
pub record IsLaidOut (rtype : ℕ) (rdata : List ℕ) : Type 0 where
  pub ds : rtype ≡ 43 → (ds : Ds) × IsDs rdata ds
  pub rrsig : rtype ≡ 46 → (rrsig : Rrsig) × IsRrsig rdata rrsig
  pub nsec : rtype ≡ 47 → (nsec : Nsec) × IsNsec rdata nsec
  pub dnskey : rtype ≡ 48 → (dnskey : Dnskey) × IsDnskey rdata dnskey
  pub nsec3 : rtype ≡ 50 → (nsec3 : Nsec3) × IsNsec3 rdata nsec3

-- the RDATA of a record in an RRset of the type: its length is a number of 16 bits, it has the parts that its type
-- has, and where the type is one of DNSSEC's it is read as such a record
pub record IsRdata (rtype : ℕ) (rdata : List ℕ) : Type 0 where
  pub octets : AreOctets rdata
  pub at_most_65535 : length rdata ≤ 65535
  pub parts : HasParts rtype 1 rdata
  pub laid_out : IsLaidOut rtype rdata

-- the RDATA of a signature over records of the type
pub record IsSignatureOver (rtype : ℕ) (rdata : List ℕ) : Type 0 where
  pub octets : AreOctets rdata
  pub at_most_65535 : length rdata ≤ 65535
  pub rrsig : Rrsig
  pub is : IsRrsig rdata rrsig
  pub covers : rrsig.type_covered.0 ≡ rtype

-- what is true of each RRset of a capture: its type forms RRsets, its owner is a name, it has a record, and each RDATA
-- of its records and signatures is laid out
pub record IsWellFormed (rrset : ReceivedRrset) : Type 0 where
  pub typed : rrset.rtype < 2 ^ 16
  pub forms : IsTrue (forms_rrsets rrset.rtype)
  pub named : IsName rrset.owner
  pub not_empty : 0 < length rrset.rdata
  pub each_rdata : AllByRecursion (IsRdata rrset.rtype) rrset.rdata
  pub each_signature : AllByRecursion (IsSignatureOver rrset.rtype) rrset.signatures

-- the RDATA of the RRset where it is of the type, and none where it is of another
abbrev pub rdata_of_type : ℕ → ReceivedRrset → List (List ℕ)
rdata_of_type rtype rrset = if rrset.rtype == rtype then rrset.rdata else []
