-- The digest types of DS records that are supported, and their hash functions. Nothing else in this
-- crate says which there are, but the type's source file.
use Rattle.std.specs.Prelude.{ℕ, ◌==◌, ◌<◌, List, Option, Some, None, if◌then◌else◌}
use Rattle.sha1.specs.Sha1.{sha1}
use Rattle.sha2.specs.Sha256.{sha256}
use Rattle.sha2.specs.Sha512.{sha384}
use Rattle.dnsv_digest.specs.declared.digest_algorithm.DigestAlgorithm.{DigestAlgorithm}
use Rattle.dnsv_digest.specs.declared.digest_algorithm.DigestAlgorithm.TheVariants.{Sha1, Sha256, Sha384}

-- the digest type with a number, where it is supported: 1 is SHA-1 (RFC 4034 A.2), 2 is SHA-256 (RFC 4509 5), 4 is
-- SHA-384 (RFC 6605 2)
abbrev pub digest_algorithm_of : ℕ → Option DigestAlgorithm
digest_algorithm_of number =
    if number == 1 then Some Sha1
    else if number == 2 then Some Sha256
    else if number == 4 then Some Sha384
    else None

-- the hash function of a digest type
abbrev pub hash_of : DigestAlgorithm → List ℕ → List ℕ
hash_of Sha1 message = sha1 message
hash_of Sha256 message = sha256 message
hash_of Sha384 message = sha384 message

-- How strong a digest type is beside the others: SHA-256 goes before SHA-1 (RFC 4509 3), and SHA-384 before both.
abbrev pub strength_of : DigestAlgorithm → ℕ
strength_of Sha1 = 1
strength_of Sha256 = 2
strength_of Sha384 = 3

-- a digest type that goes before another where both are there
abbrev pub IsStronger : DigestAlgorithm → DigestAlgorithm → Type 0
IsStronger a b = strength_of b < strength_of a
