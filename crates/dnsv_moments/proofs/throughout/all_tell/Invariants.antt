use Rattle.std.proofs.Common.{take}
use Rattle.dnsv_moments.specs.Question.{TellKind}
use Rattle.dnsv_moments.proofs.throughout.all_tell.Given as goal

-- each so far tells it
abbrev pub invariant-loop-stretch : goal.invariant-loop-stretch
invariant-loop-stretch l = TellKind l.kind (take l.stretch-index l.stretches)
