use Rattle.dnsv_files.proofs.OpeningLemmas.Macs.{GoesOn}
use Rattle.dnsv_files.proofs.opening.macs.macs_of.Given as goal

-- what the lines that are left say, behind the MACs so far, is what all lines say
abbrev pub invariant-loop-line : goal.invariant-loop-line
invariant-loop-line l = GoesOn l.initial.line-iterator l.macs.items l.line-iterator
