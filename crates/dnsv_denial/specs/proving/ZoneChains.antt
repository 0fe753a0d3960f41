-- The chains of a zone in the order in which they are asked, and the records that are kept of one. No public clause
-- cites this module.
use Rattle.std.specs.Prelude.{⊤, ◌≡◌, ℕ, List, ◌∷◌, get_or, map}
use Rattle.dnsv_names.specs.Name.{Labels}
use Rattle.dnsv_zones.specs.chains.Rdata.{parameters_of}
use Rattle.dnsv_canonical.specs.Rrsets.{ReceivedRrset}
use Rattle.dnsv_denial.specs.gathering.Gathered.{AreNsecsOf, AreNsec3sOf}
use Rattle.dnsv_proof_forms.specs.records.AskedHash.{HasHashesOf}
use Rattle.dnsv_denial.specs.gathering.EvidenceWords.{Chain}
use Rattle.dnsv_denial.specs.gathering.EvidenceWords.Chain.{ByNsec, ByNsec3}
use Rattle.dnsv_denial.specs.declared.gathering.kept_chain.KeptChain.{KeptChain}
use Rattle.dnsv_denial.specs.declared.gathering.kept_chain.KeptChain.TheVariants.{Nsec, Nsec3}
use Rattle.dnsv_proof_forms.specs.declared.records.name_hashes.NameHashes.{NameHashes}

-- NSEC, and then NSEC3 with the parameters of each set
abbrev pub chains_of : List NameHashes → List Chain
chains_of sets = ByNsec ∷ map (λ set. ByNsec3 (parameters_of set.parameters.now)) sets

-- the chain with the number
abbrev pub chain_at : List NameHashes → ℕ → Chain
chain_at sets number = get_or (chains_of sets) number ByNsec

-- the kept records are those of the zone's chain
abbrev pub IsKeptOf : (ℕ → ℕ → Type 0) → List ReceivedRrset → Labels → Chain → KeptChain → Type 0
IsKeptOf Secured rrsets zone ByNsec (Nsec entries) = AreNsecsOf Secured rrsets zone entries.now
IsKeptOf Secured rrsets zone ByNsec (Nsec3 hashed) = ⊥
IsKeptOf Secured rrsets zone (ByNsec3 parameters) (Nsec entries) = ⊥
IsKeptOf Secured rrsets zone (ByNsec3 parameters) (Nsec3 hashed) =
    AreNsec3sOf Secured rrsets zone hashed.entries.now × (parameters_of hashed.parameters.now ≡ parameters)

-- NSEC3 records come with the hashes of the names that a question of the name asks for
abbrev pub HasKeptHashes : Labels → KeptChain → Type 0
HasKeptHashes name (Nsec entries) = ⊤
HasKeptHashes name (Nsec3 hashed) = (hashed.name.now ≡ name) × HasHashesOf hashed
