-- How the hashes of a question are kept, and lent to views (RFC 5155 5).
use Rattle.std.specs.Prelude.{◌↔◌, List, Contains, map}
use Rattle.std.specs.List.{AllByRecursion}
use Rattle.std.specs.List.Sorted.{IsStrictlySortedBy}
use Rattle.dnsv_names.specs.Name.{Labels}
use Rattle.dnsv_records.specs.declared.nsec3.Nsec3Parameters.{Nsec3Parameters}
use Rattle.dnsv_canonical.specs.Evidence.{AreParametersAmong, nsec3_rdata}
use Rattle.dnsv_canonical.specs.Rrsets.{ReceivedRrset}
use Rattle.dnsv_proof_forms.specs.records.ParametersOrder.{parameters_cmp}
use Rattle.dnsv_zones.specs.chains.HashedNames.{sha1_hash, AreHashes}
use Rattle.dnsv_zones.specs.chains.Rdata.{parameters_of}
use Rattle.dnsv_proof_forms.specs.declared.records.name_hashes.NameHashes.{NameHashes}

-- the hashes are those of the names that a question of the name asks for
abbrev pub IsSetOf : Labels → NameHashes → Type 0
IsSetOf name set =
    AreHashes (sha1_hash (parameters_of set.parameters.now)) name set.hashed.above.items set.hashed.wildcards.items

-- the sets are of the name, in the order of their parameters, which are those of all usable NSEC3 records
pub record AreKeptHashes (rrsets : List ReceivedRrset) (name : Labels) (sets : List NameHashes) : Type 0 where
  pub hashed : AllByRecursion (IsSetOf name) sets
  pub order : IsStrictlySortedBy parameters_cmp (map parameters_of (map (λ set. set.parameters.now) sets))
  pub members : (each : Nsec3Parameters) → Contains (map (λ set. set.parameters.now) sets) each
      ↔ AreParametersAmong (nsec3_rdata rrsets) each
