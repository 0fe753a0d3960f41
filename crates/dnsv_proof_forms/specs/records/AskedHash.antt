-- The hashes that the code has of asked names.
use Rattle.dnsv_zones.specs.chains.HashedNames.{sha1_hash, AreHashes}
use Rattle.dnsv_zones.specs.chains.Nsec3Chain.{NameHash}
use Rattle.dnsv_zones.specs.chains.Rdata.{parameters_of}
use Rattle.dnsv_proof_forms.specs.declared.records.hashed_records.HashedRecords.{HashedRecords}

-- the hash that they are made with
abbrev pub hash_of : HashedRecords → NameHash
hash_of hashes = sha1_hash (parameters_of hashes.parameters.now)

-- they are the hashes that a question of the name asks for
abbrev pub HasHashesOf : HashedRecords → Type 0
HasHashesOf hashes = AreHashes (hash_of hashes) hashes.name.now hashes.above.now hashes.wildcards.now
