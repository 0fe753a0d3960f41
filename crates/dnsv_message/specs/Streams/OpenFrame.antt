-- How an `OpenFrame` keeps what has come of a frame, and what a `Framer` shows of it. No public clause cites this
-- module.
use Rattle.std.specs.Prelude.{◌≡◌, ℕ, zero, suc, ◌/◌, ◌%◌, ◌<◌, List, [], ◌∷◌, length, Option, Some, None}
use Rattle.dnsv_message.specs.declared.errors.ReadError.{ReadError}
use Rattle.dnsv_message.specs.declared.errors.ReadError.TheVariants.{ZeroLength}

-- the octets that have come: the first of the length, or both and then those of the message
abbrev pub octets_of : Option ℕ → ℕ → List ℕ → List ℕ
octets_of None zero message = []
octets_of (Some high) zero message = high ∷ []
octets_of high (suc more) message = suc more / 256 ∷ (suc more % 256 ∷ message)

-- of a message that is announced fewer octets are kept than it has, and where none is announced no octets
pub record IsOpen (announced : ℕ) (message : List ℕ) : Type 0 where
  pub short : 0 < announced → length message < announced
  pub empty : announced ≡ 0 → message ≡ []

-- the rest that a framer shows: where a length 0 failed it, that alone
abbrev pub rest_of : Option ReadError → List ℕ → List ℕ
rest_of None rest = rest
rest_of (Some ZeroLength) rest = 0 ∷ (0 ∷ [])
rest_of (Some _) rest = rest
