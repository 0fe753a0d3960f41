-- Zones that have the records at some places of a chain's.
use Rattle.std.specs.Prelude.{⊤, ℕ, List, [], ◌∷◌, ◌++◌, Option, Some, None, map, slice_get}
use Rattle.dnsv_names.specs.Name.{Labels}
use Rattle.dnsv_zones.specs.chains.Nsec3Chain.{HasNsec3Records, HasNoCollision}
use Rattle.dnsv_zones.specs.chains.NsecChain.{HasNsecRecords}
use Rattle.dnsv_zones.specs.zones.Zone.{Zone}
use Rattle.dnsv_proof_forms.specs.declared.records.chain_records.ChainRecords.{ChainRecords}
use Rattle.dnsv_proof_forms.specs.declared.records.chain_records.ChainRecords.TheVariants.{Nsec, Nsec3}
use Rattle.dnsv_proof_forms.specs.records.AskedHash.{hash_of}
use Rattle.dnsv_proof_forms.specs.records.Record.{read_entry, read_nsec3}

-- the one member, where there is one
abbrev pub listed : {X : Type 0} → Option X → List X
listed None = []
listed (Some member) = member ∷ []

-- the members at the places
abbrev pub at_places : {X : Type 0} → List X → List ℕ → List X
at_places members [] = []
at_places members (place ∷ places) = listed (slice_get members place) ++ at_places members places

-- the zone has in its chain the records at the places
abbrev pub HasRecordsAt : Zone → Labels → ChainRecords → List ℕ → Type 0
HasRecordsAt zone apex (Nsec entries) places = HasNsecRecords zone apex (map read_entry (at_places entries.now places))
HasRecordsAt zone apex (Nsec3 hashed) places =
    HasNsec3Records zone apex (hash_of hashed.now) (map read_nsec3 (at_places hashed.now.entries.now places))

-- for NSEC3, no node of the zone has the hash of another name that a question of the name asks for
abbrev pub HasNoCollisionBy : Zone → Labels → ChainRecords → Type 0
HasNoCollisionBy zone name (Nsec entries) = ⊤
HasNoCollisionBy zone name (Nsec3 hashed) = HasNoCollision zone (hash_of hashed.now) name
