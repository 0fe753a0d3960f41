-- The DNSSEC algorithms whose signatures count.
use Rattle.std.specs.Prelude.{ℕ, ◌==◌, Bool, List, [], ◌∷◌}
use Rattle.std.specs.List.{list_any}

-- RSA with SHA-1, of zones without and with NSEC3 (RFC 3110, RFC 5155 2), with SHA-256 and SHA-512 (RFC 5702), ECDSA
-- on P-256 and P-384 (RFC 6605), Ed25519 and Ed448 (RFC 8080)
abbrev pub supported_algorithms : List ℕ
supported_algorithms = 5 ∷ 7 ∷ 8 ∷ 10 ∷ 13 ∷ 14 ∷ 15 ∷ 16 ∷ []

-- whether the algorithm is one of them
abbrev pub is_supported : ℕ → Bool
is_supported algorithm = list_any (λ other. other == algorithm) supported_algorithms
