-- What NSEC3 records say of a hash. No public clause cites this module.
use Rattle.std.specs.Prelude.{◌≡◌, ℕ, List}
use Rattle.dnsv_names.specs.Order.{label_cmp}
use Rattle.dnsv_names.specs.Circle.{Gap}
use Rattle.dnsv_zones.specs.chains.Nsec3Chain.{Nsec3Record, Parameters}

-- the record has the hash, made with these parameters
abbrev pub HasHash : Parameters → List ℕ → Nsec3Record → Type 0
HasHash parameters hash nsec3 = (nsec3.parameters ≡ parameters) × (nsec3.hash ≡ hash)

-- the hash, made with these parameters, lies between the record's and the next one
abbrev pub CoversHash : Parameters → List ℕ → Nsec3Record → Type 0
CoversHash parameters hash nsec3 = (nsec3.parameters ≡ parameters) × Gap label_cmp nsec3.hash nsec3.next hash
