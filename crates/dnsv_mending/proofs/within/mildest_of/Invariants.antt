use Rattle.std.proofs.Common.{◌≡◌, drop}
use Rattle.dnsv_mending.specs.Within.{mildest_from}
use Rattle.dnsv_mending.specs.declared.facts.signature.KeyAnswer.TheVariants as answer
use Rattle.dnsv_mending.proofs.within.mildest_of.Given as goal

-- the keys that are left, after those so far
abbrev pub invariant-loop-key : goal.invariant-loop-key
invariant-loop-key l = mildest_from l.least (drop l.key-index l.keys) ≡ mildest_from answer.Bad l.keys
