-- Octets in base64 as a field of a text file.
use Rattle.std.specs.Prelude.{◌≡◌, ℕ, List}
use Rattle.base64.specs.Engines.{standard}
use Rattle.base64.specs.GeneralPurpose.{encode_of}
use Rattle.dnsv_names.specs.Octets.{AreOctets}

-- the field is octets in base64 with padding (RFC 4648 4)
pub record IsBase64 (field : List ℕ) : Type 0 where
  pub octets : List ℕ
  pub are : AreOctets octets
  pub coded : field ≡ encode_of standard octets
