-- Where the fields of RDATA stand.
use Rattle.std.specs.Prelude.{◌≡◌, ℕ, List, ◌∷◌, ◌++◌, length}
use Rattle.dnsv_names.specs.Name.{Labels, IsName, wire}

-- an uncompressed name stands at the front (RFC 1035 3.1)
abbrev pub BeginsWithName : List ℕ → Type 0
BeginsWithName octets = (name : Labels) × (rest : List ℕ) × IsName name × (octets ≡ wire name ++ rest)

-- octets stand behind their count in 8 bits, and then the rest
abbrev pub IsCounted : List ℕ → List ℕ → List ℕ → Type 0
IsCounted octets counted rest = octets ≡ length counted ∷ (counted ++ rest)

-- octets with their count stand at the front
abbrev pub BeginsWithCounted : List ℕ → Type 0
BeginsWithCounted octets = (counted : List ℕ) × (rest : List ℕ) × IsCounted octets counted rest
