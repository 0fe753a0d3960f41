-- RDATA in pieces that stand together: how `Pieces` is seen. No public clause cites this module.
use Rattle.std.specs.Prelude.{ℕ, zero, suc, ◌-◌, ◌≤◌, List, ◌++◌, length}
use Rattle.dnsv_names.specs.Name.{wire}
use Rattle.dnsv_message.specs.Following.{IsNamed, StandsAt, labels_at}
use Rattle.dnsv_message.specs.Following.Rdata.{end_at, written_at}
use Rattle.dnsv_message.specs.Grammar.{part_of}

-- the labels from the place on, and the names and octets behind them; or where no name is left the octets from there on
abbrev pub pieces_from : ℕ → List ℕ → ℕ → ℕ → ℕ → List ℕ
pieces_from zero octets place behind limit = part_of octets place (limit - place)
pieces_from (suc more) octets place behind limit = wire (labels_at octets place) ++ written_at more octets behind limit

-- so many names stand one after another from the place on, and end within the limit
abbrev pub NamesStand : ℕ → List ℕ → ℕ → ℕ → Type 0
NamesStand zero octets place limit = place ≤ limit
NamesStand (suc more) octets place limit = IsNamed octets place × NamesStand more octets (end_at octets place) limit

-- a piece stands at the place, and so does what follows it
abbrev pub PieceStands : ℕ → List ℕ → ℕ → ℕ → ℕ → Type 0
PieceStands zero octets place behind limit = place ≤ limit
PieceStands (suc more) octets place behind limit = StandsAt octets place × NamesStand more octets behind limit

pub record PiecesStand (names : ℕ) (octets : List ℕ) (place behind limit : ℕ) : Type 0 where
  pub within : limit ≤ length octets
  pub piece : PieceStands names octets place behind limit
