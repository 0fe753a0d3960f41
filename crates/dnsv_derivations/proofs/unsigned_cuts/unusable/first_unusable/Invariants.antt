use Rattle.std.proofs.Common.{◌≤◌, ℕ}
use Rattle.dnsv_derivations.specs.Explained.{setting_in}
use Rattle.dnsv_derivations.specs.unsigned_cuts.UnsignedCuts.{IsUnusableSet}
use Rattle.dnsv_derivations.proofs.unsigned_cuts.unusable.first_unusable.Given as goal

-- none of the RRsets so far is such
abbrev pub invariant-loop-place : goal.invariant-loop-place
invariant-loop-place l = (k : ℕ) → k ≤ l.place → ¬ IsUnusableSet (setting_in l.evidence) l.name k
