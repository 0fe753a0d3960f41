-- The digest of a DS record.
use Rattle.std.specs.Prelude.{ℕ, List, ◌++◌, Option}
use Rattle.std.specs.Option.{option_map}
use Rattle.dnsv_names.specs.Name.{Labels, wire, lower_case}
use Rattle.dnsv_digest.specs.DigestAlgorithm.{digest_algorithm_of, hash_of}

-- the digest of a key by the digest type with a number: the hash of the key's owner, uncompressed and in
-- lower case, followed by the RDATA of its DNSKEY record (RFC 4034 5.1.4); None where the digest type
-- isn't supported
abbrev pub ds_digest_of : ℕ → Labels → List ℕ → Option (List ℕ)
ds_digest_of number owner rdata =
    option_map (λ digest_type. hash_of digest_type (wire (lower_case owner) ++ rdata)) (digest_algorithm_of number)
