-- What the records of one chain say of names, each by its place among them.
use Rattle.std.specs.Prelude.{⊤, ◌≡◌, ◌≢◌, ℕ, Bool}
use Rattle.dnsv_names.specs.Name.{Labels}
use Rattle.dnsv_zones.specs.forms.RecordWords.{RecordWords}
use Rattle.dnsv_zones.specs.forms.Said.{nsec_records_say, nsec3_records_say}
use Rattle.dnsv_proof_forms.specs.declared.records.chain_records.ChainRecords.{ChainRecords}
use Rattle.dnsv_proof_forms.specs.declared.records.chain_records.ChainRecords.TheVariants.{Nsec, Nsec3}
use Rattle.dnsv_proof_forms.specs.records.AskedHash.{hash_of, HasHashesOf}
use Rattle.dnsv_proof_forms.specs.records.Record.{read_entry, read_nsec3}
use Rattle.dnsv_proof_forms.specs.words.SaidAt.{IsSaidAt}

-- what the records of a chain of the zone with this apex say
abbrev pub chain_said : Labels → ChainRecords → RecordWords ℕ
chain_said apex (Nsec entries) =
    nsec_records_say apex (λ Says. IsSaidAt (λ entry. Says (read_entry entry)) entries.now)
chain_said apex (Nsec3 hashed) = nsec3_records_say (hash_of hashed.now)
    (λ Says. IsSaidAt (λ entry. Says (read_nsec3 entry)) hashed.now.entries.now)

-- NSEC3 records come with the hashes of the names that a question of the name asks for
abbrev pub HasHashes : Labels → ChainRecords → Type 0
HasHashes name (Nsec entries) = ⊤
HasHashes name (Nsec3 hashed) = (hashed.now.name.now ≡ name) × HasHashesOf hashed.now

-- the record at the place is one of the chain: of NSEC3 records those have the parameters of the hashes
abbrev pub IsOfChain : ChainRecords → ℕ → Type 0
IsOfChain (Nsec entries) = IsSaidAt (λ entry. ⊤) entries.now
IsOfChain (Nsec3 hashed) =
    IsSaidAt (λ entry. (read_nsec3 entry).parameters ≡ (hash_of hashed.now).parameters) hashed.now.entries.now

-- it is an NSEC3 record of the chain with the Opt-Out flag (RFC 5155 6)
abbrev pub IsOptOutOfChain : ChainRecords → ℕ → Type 0
IsOptOutOfChain (Nsec entries) place = ⊥
IsOptOutOfChain (Nsec3 hashed) place = IsSaidAt
    (λ entry. ((read_nsec3 entry).parameters ≡ (hash_of hashed.now).parameters) × ((read_nsec3 entry).flags ≢ 0))
    hashed.now.entries.now place

-- the record at the place, of whatever parameters, tells of these types
abbrev pub IsTypesAt : ChainRecords → ℕ → (ℕ → Bool) → Type 0
IsTypesAt (Nsec entries) place types = IsSaidAt (λ entry. (read_entry entry).types ≡ types) entries.now place
IsTypesAt (Nsec3 hashed) place types =
    IsSaidAt (λ entry. (read_nsec3 entry).types ≡ types) hashed.now.entries.now place
