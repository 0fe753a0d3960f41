use Rattle.std.proofs.Common.{◌≡◌, ◌*◌, drop}
use Rattle.dnsv_names.specs.Octets.{octets_cmp}
use Rattle.dnsv_names.proofs.octets.compare.compare_octets.Given as goal

-- the octets so far are the same, so what is left decides
abbrev pub invariant-loop-word : goal.invariant-loop-word
invariant-loop-word l = octets_cmp l.a l.b ≡ octets_cmp (drop (8 * l.word) l.a) (drop (8 * l.word) l.b)
