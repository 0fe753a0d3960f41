use Rattle.std.proofs.Common.{◌≡◌, ◌+◌, ◌*◌, ◌%◌, ◌^◌, drop}
use Rattle.std.specs.List.{enumerate_from, sum_by}
use Rattle.dnsv_records.specs.Dnskey.KeyTag.{weight_at, weighted_sum}
use Rattle.dnsv_records.proofs.dnskey.tag.key_tag.Given as goal

-- the sum so far and that of the octets that are left make the whole sum, up to its low 32 bits
abbrev pub invariant-loop-place : goal.invariant-loop-place
invariant-loop-place l =
    (l.sum + sum_by (λ at. at.1 * weight_at at.0) (enumerate_from l.place (drop l.place l.rdata))) % 2 ^ 32
    ≡ weighted_sum l.rdata % 2 ^ 32
