-- The times of the signatures of a capture.
use Rattle.std.specs.Prelude.{◌≡◌, ◌⊎◌, ◌↔◌, ℕ, List, Contains}
use Rattle.dnsv_records.specs.Rrsig.{IsRrsig}
use Rattle.dnsv_records.specs.declared.rrsig.Rrsig.{Rrsig}
use Rattle.dnsv_canonical.specs.Rrsets.{ReceivedRrset}
use Rattle.dnsv_timeline.specs.declared.times.Times.{Times}

abbrev pub times_of : Rrsig → Times
times_of rrsig = record { inception = rrsig.inception; expiration = rrsig.expiration }

-- a signature of the RRset has these times
abbrev pub IsTimesOf : ReceivedRrset → Times → Type 0
IsTimesOf rrset times =
    (rrsig : Rrsig) × (rdata : List ℕ) × Contains rrset.signatures rdata × IsRrsig rdata rrsig × (times ≡ times_of rrsig)

-- just those of the RRsets' signatures
abbrev pub AreTimesOf : List ReceivedRrset → List Times → Type 0
AreTimesOf rrsets all = (times : Times)
    → Contains all times ↔ ((rrset : ReceivedRrset) × Contains rrsets rrset × IsTimesOf rrset times)

-- the new list has what the old one has, and those of the RRset's signatures: no public clause cites this
pub record AddsTimes (rrset : ReceivedRrset) (old new : List Times) : Type 0 where
  pub members : (times : Times) → Contains new times ↔ (Contains old times ⊎ IsTimesOf rrset times)
