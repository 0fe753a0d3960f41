use Rattle.std.proofs.Common.{◌+◌, ◌-◌, ◌*◌}
use Rattle.arrayvec.specs.ArrayVec.{array_vec_len}
use Rattle.dnsv_message.proofs.NameLaws.NameWalk.{Walked}
use Rattle.dnsv_message.proofs.name_at.name_at.Given as goal

-- some labels are read, and the name goes on at the walk's place
abbrev pub invariant-steps : goal.invariant-steps
invariant-steps l = Walked l.octets l.place l.walk.place l.walk.run l.walk.pointers l.wire.items l.end

abbrev pub decreases-steps : goal.decreases-steps
decreases-steps l = l.walk.pointers * 256 + (256 - array_vec_len l.wire)
