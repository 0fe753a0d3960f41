use Rattle.std.proofs.Common.{◌+◌, ℕ}
use Rattle.std.specs.Option.{option_map_or}
use Rattle.dnsv_derivations.specs.Explained.{setting_in}
use Rattle.dnsv_derivations.specs.derivations.Climb.{IsUpTo, labels_at}
use Rattle.dnsv_derivations.proofs.derivations.derive_keys.Given as goal

abbrev pub invariant-loop-next : goal.invariant-loop-next
invariant-loop-next l = IsUpTo (setting_in l.evidence) l.before l.number l.lines.items l.next

abbrev pub decreases-loop-next : goal.decreases-loop-next
decreases-loop-next l = option_map_or (λ (k : ℕ). labels_at l.evidence.rrsets k + 1) l.next 0
