use Rattle.std.proofs.Common.{length}
use Rattle.dnsv_derivations.specs.Explained.{setting_in}
use Rattle.dnsv_derivations.proofs.lemmas.derivations.WayLemmas.NewKeyLemmas.{AreThereTo}
use Rattle.dnsv_derivations.proofs.derivations.ways.kept.new_keys.Given as goal

-- each RDATA so far is there
abbrev pub invariant-loop-place : goal.invariant-loop-place
invariant-loop-place l = AreThereTo (setting_in l.evidence) (length l.before) l.rrset l.keys.items l.place
