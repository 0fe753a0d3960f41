use Rattle.std.proofs.Common.{◌≡◌, take}
use Rattle.std.specs.Str.{bytes_eq}
use Rattle.dnsv_tsig.proofs.mac.begins_mac.Given as goal

-- the octets so far are the same
abbrev pub invariant-loop-i : goal.invariant-loop-i
invariant-loop-i l = l.same ≡ bytes_eq (take l.i l.mac) (take l.i l.right)
