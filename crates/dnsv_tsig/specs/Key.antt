-- Keys that are shared between those who sign and those who verify (RFC 8945 5.2.1).
use Rattle.std.specs.Prelude.{ℕ, List, Option}
use Rattle.std.specs.List.{find}
use Rattle.dnsv_names.specs.Name.{Labels, same_name}

-- a key's name as it is spelled, and its octets
pub record SharedKey : Type 0 where
  pub name : Labels
  pub secret : List ℕ

-- the key with the name, without regard to case
abbrev pub key_named : Labels → List SharedKey → Option SharedKey
key_named name keys = find (λ key. same_name key.name name) keys
