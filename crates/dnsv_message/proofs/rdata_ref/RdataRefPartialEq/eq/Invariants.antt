use Rattle.std.proofs.Common.{◌++◌, length}
use Rattle.dnsv_message.proofs.FollowLemmas.PieceLemmas.{LeaveIt}
use Rattle.dnsv_message.proofs.rdata_ref.RdataRefPartialEq.eq.Given as goal

-- what has been passed is the same, so what is left decides
abbrev pub invariant-pieces : goal.invariant-pieces
invariant-pieces l = LeaveIt l.self l.other (l.own ++ l.own_rest) (l.others ++ l.others_rest)

abbrev pub decreases-pieces : goal.decreases-pieces
decreases-pieces l = length (l.own ++ l.own_rest)
