-- The hash of a name in the chain of NSEC3 records.
use Rattle.std.specs.Prelude.{ℕ, zero, suc, List, ◌++◌}
use Rattle.sha1.specs.Sha1.{sha1}
use Rattle.dnsv_names.specs.Name.{Labels, wire, lower_case}

-- IH(salt, x, k) of RFC 5155 5: x is hashed with the salt behind it, and then each hash is, k times
unfoldable pub iterated_hash : List ℕ → List ℕ → ℕ → List ℕ
iterated_hash salt x zero = sha1 (x ++ salt)
iterated_hash salt x (suc k) = sha1 (iterated_hash salt x k ++ salt)

-- the hash of a name, uncompressed and in lower case, with so many iterations besides the first (RFC 5155 5)
abbrev pub nsec3_hash_of : Labels → List ℕ → ℕ → List ℕ
nsec3_hash_of name salt iterations = iterated_hash salt (wire (lower_case name)) iterations
