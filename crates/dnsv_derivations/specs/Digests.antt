-- The digests of a key. No public clause cites this module.
use Rattle.std.specs.Prelude.{◌≡◌, ℕ, List, Option}
use Rattle.dnsv_digest.specs.Digest.{ds_digest_of}
use Rattle.dnsv_verifier.specs.Admissible.{DnskeyRecord}

-- the key's digests by the digest types that are supported
pub record AreDigestsOf (key : DnskeyRecord) (by_sha1 by_sha256 by_sha384 : Option (List ℕ)) : Type 0 where
  pub sha1 : by_sha1 ≡ ds_digest_of 1 key.owner key.rdata
  pub sha256 : by_sha256 ≡ ds_digest_of 2 key.owner key.rdata
  pub sha384 : by_sha384 ≡ ds_digest_of 4 key.owner key.rdata
