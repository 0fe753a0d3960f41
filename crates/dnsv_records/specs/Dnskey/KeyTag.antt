-- The key tag (RFC 4034 appendix B).
use Rattle.std.specs.Prelude.{ℕ, ◌+◌, ◌*◌, ◌/◌, ◌%◌, ◌==◌, if◌then◌else◌, List, sum_by}
use Rattle.std.specs.List.{enumerate_from}

-- how much an octet counts by its place, counted from 0: it is the high octet of 16 bits at an even place
abbrev pub weight_at : ℕ → ℕ
weight_at place = if place % 2 == 0 then 256 else 1

-- the sum over all places of the octet times its weight
abbrev pub weighted_sum : List ℕ → ℕ
weighted_sum octets = sum_by (λ at. at.1 * weight_at at.0) (enumerate_from 0 octets)

-- the low 16 bits of the sum, after what lies above its low 16 bits is added to it
abbrev pub key_tag_of : List ℕ → ℕ
key_tag_of octets = let sum = weighted_sum octets in (sum + sum / 65536) % 65536
