-- What the questions of one case share beside it. No public clause cites this module.
use Rattle.std.specs.Prelude.{◌≡◌, ◌≤◌, IfSome, List, length}
use Rattle.std.specs.List.{AllByRecursion}
use Rattle.dnsv_canonical.specs.Rrsets.{ReceivedRrset}
use Rattle.dnsv_proof_forms.specs.QuestionHashes.{HashedQuestion}
use Rattle.dnsv_chain.specs.Basis.{CaseContents}
use Rattle.dnsv_verdict.specs.Hope.{IsHopeful}
use Rattle.dnsv_verdict.specs.declared.case.shared.Shared.{Shared}

-- the hashes are made with the parameters of these RRsets
abbrev pub AreHashedIn : List ReceivedRrset → List HashedQuestion → Type 0
AreHashedIn rrsets hashed = AllByRecursion (λ each. each.rrsets ≡ rrsets) hashed

-- what is there is of the case: the hopeful one is its own, and the names are hashed by its evidence; no more are kept
-- than a way has at most, which are its first and the targets of eight links
pub record IsSharedOf (case : CaseContents) (shared : Shared) : Type 0 where
  pub hopeful : IfSome shared.hopeful (λ hopeful. IsHopeful case hopeful.value)
  pub names : AreHashedIn case.rrsets shared.names.items
  pub few : length shared.names.items ≤ 9
