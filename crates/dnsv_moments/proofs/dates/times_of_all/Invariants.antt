use Rattle.std.proofs.Common.{take}
use Rattle.dnsv_moments.specs.Dates.{AreTimesOf}
use Rattle.dnsv_moments.proofs.dates.times_of_all.Given as goal

-- those of the RRsets so far
abbrev pub invariant-loop-rrset : goal.invariant-loop-rrset
invariant-loop-rrset l = AreTimesOf (take l.rrset-index l.rrset-items) l.all.items
