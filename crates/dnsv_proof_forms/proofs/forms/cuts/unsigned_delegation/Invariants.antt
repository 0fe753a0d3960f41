-- none of the records shows a delegation with so few labels
use Rattle.std.proofs.Common.{ℕ, ◌+◌, ◌-◌, ◌<◌, ◌≤◌, length}
use Rattle.dnsv_proof_forms.specs.words.ChainSaid.{chain_said}
use Rattle.dnsv_proof_forms.proofs.lemmas.forms.CutLemmas.{NoCut}
use Rattle.dnsv_proof_forms.proofs.forms.cuts.unsigned_delegation.Given as goal

abbrev pub invariant-loop-labels : goal.invariant-loop-labels
invariant-loop-labels l =
    (length l.apex ≤ l.labels)
    × ((k : ℕ) → length l.apex < k → k < l.labels + 1 → NoCut (chain_said l.apex l.records) l.name k)

abbrev pub decreases-loop-labels : goal.decreases-loop-labels
decreases-loop-labels l = length l.name - l.labels
