-- nothing is left out below a closest encloser with so many labels
use Rattle.std.proofs.Common.{ℕ, ◌<◌}
use Rattle.dnsv_zones.specs.forms.Parts.{OptsOut}
use Rattle.dnsv_proof_forms.specs.words.ChainSaid.{chain_said}
use Rattle.dnsv_proof_forms.proofs.forms.cuts.opt_out.Given as goal

abbrev pub invariant-loop-labels : goal.invariant-loop-labels
invariant-loop-labels l = (more : ℕ) → OptsOut (chain_said l.apex l.records) l.apex l.name more → more < l.labels

abbrev pub decreases-loop-labels : goal.decreases-loop-labels
decreases-loop-labels l = l.labels
