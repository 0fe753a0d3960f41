-- What is handed out of a signed message.
use Rattle.std.specs.Prelude.{ℕ, List}
use Rattle.dnsv_names.specs.Name.{Labels}

-- the octets of the message inside, and the name of the key as the ring spells it
pub record OpenedMessage : Type 0 where
  pub message : List ℕ
  pub key : Labels
