-- Which hashes are kept for a question, by themselves (RFC 5155 5, 8).
use Rattle.std.specs.Prelude.{◌≡◌, ℕ, List}
use Rattle.dnsv_names.specs.Name.{Labels}
use Rattle.dnsv_records.specs.declared.nsec3.Nsec3Parameters.{Nsec3Parameters}
use Rattle.dnsv_canonical.specs.Evidence.{AreParametersAmong, nsec3_rdata}
use Rattle.dnsv_canonical.specs.Rrsets.{ReceivedRrset}
use Rattle.dnsv_zones.specs.chains.Nsec3Chain.{IsAsked, Parameters}
use Rattle.dnsv_zones.specs.chains.Rdata.{parameters_of}
use Rattle.dnsv_proof_forms.specs.records.AskedHash.{HasHashesOf}
use Rattle.dnsv_proof_forms.specs.declared.records.entry.Nsec3Entry.{Nsec3Entry}
use Rattle.dnsv_proof_forms.specs.declared.records.hashed_records.HashedRecords.{HashedRecords}

-- the RRsets of the evidence, and the question's name
pub record HashedQuestion : Type 0 where
  pub rrsets : List ReceivedRrset
  pub name : Labels

-- a usable NSEC3 record of the evidence has these parameters
abbrev pub AreUsed : List ReceivedRrset → Parameters → Type 0
AreUsed rrsets parameters =
    (each : Nsec3Parameters) × AreParametersAmong (nsec3_rdata rrsets) each × (parameters_of each ≡ parameters)

-- the records, to be asked with the question's hashes with these parameters
pub record AreHashedFor
    (question : HashedQuestion) (entries : List Nsec3Entry) (parameters : Parameters) (hashed : HashedRecords)
    : Type 0 where
  pub entries_are : hashed.entries.now ≡ entries
  pub name_is : hashed.name.now ≡ question.name
  pub parameters_are : parameters_of hashed.parameters.now ≡ parameters
  pub has_hashes : HasHashesOf hashed

-- the hash of the name with these parameters is one that the question asks for
abbrev pub IsAskedHash : HashedQuestion → ℕ → List ℕ → Labels → Type 0
IsAskedHash question iterations salt name =
    AreUsed question.rrsets (record { iterations = iterations; salt = salt }) × IsAsked question.name name
