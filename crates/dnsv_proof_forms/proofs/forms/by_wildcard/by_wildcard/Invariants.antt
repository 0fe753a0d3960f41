-- the form stands by no closest encloser with so many labels
use Rattle.std.proofs.Common.{ℕ, ◌<◌}
use Rattle.dnsv_proof_forms.specs.forms.ByWildcard.{StandsAt}
use Rattle.dnsv_proof_forms.specs.words.ChainSaid.{chain_said}
use Rattle.dnsv_proof_forms.proofs.forms.by_wildcard.by_wildcard.Given as goal

abbrev pub invariant-loop-labels : goal.invariant-loop-labels
invariant-loop-labels l =
    (more : ℕ) → StandsAt l.asked (chain_said l.apex l.records) l.apex l.name more → more < l.labels

abbrev pub decreases-loop-labels : goal.decreases-loop-labels
decreases-loop-labels l = l.labels
