-- HMAC over SHA-256.
use Rattle.std.specs.Prelude.{ℕ, ◌-◌, nat_le, List, ◌++◌, length, map, replicate, bit_xor, if◌then◌else◌}
use Rattle.sha2.specs.Sha256.{sha256}

-- a key of at most a block of 64 octets is taken as it is, a longer one hashed (RFC 2104 2)
abbrev pub short_key : List ℕ → List ℕ
short_key key = if nat_le (length key) 64 then key else sha256 key

-- the key with zeros behind it up to a block (RFC 2104 2, step 1)
abbrev pub block_key : List ℕ → List ℕ
block_key key = short_key key ++ replicate (64 - length (short_key key)) 0

-- a block with each octet in exclusive or with a pad's octet (RFC 2104 2, steps 2 and 5)
abbrev pub masked : List ℕ → ℕ → List ℕ
masked block pad = map (λ octet. bit_xor octet pad) block

-- H(K XOR opad, H(K XOR ipad, text)), the inner pad being 0x36 and the outer one 0x5c (RFC 2104 2)
abbrev pub hmac_sha256_of : List ℕ → List ℕ → List ℕ
hmac_sha256_of key text =
    sha256 (masked (block_key key) 0x5c ++ sha256 (masked (block_key key) 0x36 ++ text))
