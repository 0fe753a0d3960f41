-- Signed data in two pieces.
use Rattle.std.specs.Prelude.{◌≡◌, ◌⊎◌, ◌++◌, ◌≤◌, ℕ, List, length}

-- The first piece of the octets, which has the times of the signature where they have 16 octets (RFC 4034 3.1). No public
-- clause cites this.
pub record IsFront (front octets : List ℕ) : Type 0 where
  pub rest : List ℕ
  pub whole : front ++ rest ≡ octets
  pub enough : (16 ≤ length front) ⊎ (front ≡ octets)
