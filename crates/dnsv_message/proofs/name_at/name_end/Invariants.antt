use Rattle.std.proofs.Common.{◌≡◌, ◌+◌, ◌-◌, ◌*◌, List, ℕ, length}
use Rattle.dnsv_message.proofs.NameLaws.NameWalk.{Walked}
use Rattle.dnsv_message.proofs.name_at.name_end.Given as goal

-- some labels are read, which take so many octets, and the name goes on at the walk's place
abbrev pub invariant-steps : goal.invariant-steps
invariant-steps l =
    (written : List ℕ) × (l.size ≡ length written) × Walked l.octets l.place l.walk.place l.walk.run l.walk.pointers written l.after

abbrev pub decreases-steps : goal.decreases-steps
decreases-steps l = l.walk.pointers * 256 + (256 - l.size)
