use Rattle.std.proofs.Common.{◌≡◌, ◌≤◌, ℕ, length, take, drop}
use Rattle.std.specs.Io.KnownBytes.{Appends}
use Rattle.dnsv_message.proofs.streams.counted.write_in_turn.Given as goal

-- the writer got the first octets, and the rest follows them
abbrev pub invariant-loop-rest : goal.invariant-loop-rest
invariant-loop-rest g l = (count : ℕ) × (count ≤ length l.octets)
    × Appends (g.W.Write.contents l.fn.writer) (g.W.Write.contents l.writer) (take count l.octets)
    × (l.rest ≡ drop count l.octets)

abbrev pub decreases-loop-rest : goal.decreases-loop-rest
decreases-loop-rest g l = length l.rest
