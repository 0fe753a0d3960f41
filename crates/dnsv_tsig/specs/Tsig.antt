-- The RDATA of TSIG (RFC 8945 4.2).
use Rattle.std.specs.Prelude.{◌≡◌, ℕ, List, ◌++◌, length}
use Rattle.dnsv_names.specs.Name.{Labels, IsName, wire}
use Rattle.dnsv_names.specs.Octets.{number_at}

-- what the RDATA says: the algorithm's name as it is spelled, the moment of signing in seconds since 1970, how many
-- seconds that may be off, the MAC, the identifier that the message had when it was signed, an error, and other data
pub record TsigFields : Type 0 where
  pub algorithm : Labels
  pub time_signed : ℕ
  pub fudge : ℕ
  pub mac : List ℕ
  pub original_id : ℕ
  pub error : ℕ
  pub other : List ℕ

-- What stands behind the algorithm's name: ten octets of numbers, the last two of which are the MAC's size, the MAC,
-- six octets of numbers, the last two of which are the other data's length, and the other data.
pub record AreParts (octets before_mac mac after_mac other : List ℕ) : Type 0 where
  pub whole : octets ≡ before_mac ++ (mac ++ (after_mac ++ other))
  pub ten : length before_mac ≡ 10
  pub six : length after_mac ≡ 6
  pub mac_size : length mac ≡ number_at before_mac 8 2
  pub other_length : length other ≡ number_at after_mac 4 2

-- The RDATA is the uncompressed name of the algorithm, time signed in 48 bits, fudge and MAC size in 16 each, the MAC,
-- original ID, error and other length in 16 each, and the other data.
pub record IsTsig (rdata : List ℕ) (tsig : TsigFields) : Type 0 where
  pub behind : List ℕ
  pub before_mac : List ℕ
  pub after_mac : List ℕ
  pub name : IsName tsig.algorithm
  pub front : rdata ≡ wire tsig.algorithm ++ behind
  pub parts : AreParts behind before_mac tsig.mac after_mac tsig.other
  pub time_signed : tsig.time_signed ≡ number_at before_mac 0 6
  pub fudge : tsig.fudge ≡ number_at before_mac 6 2
  pub original_id : tsig.original_id ≡ number_at after_mac 0 2
  pub error : tsig.error ≡ number_at after_mac 2 2
