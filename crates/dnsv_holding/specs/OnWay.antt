-- Links of a way, with the hashes for their names.
use Rattle.std.specs.Prelude.{◌≡◌, ℕ, List, map}
use Rattle.dnsv_names.specs.Name.{Labels}
use Rattle.dnsv_proof_forms.specs.QuestionHashes.{HashedQuestion}
use Rattle.dnsv_chain.specs.Basis.{CaseContents, basis_by}
use Rattle.dnsv_verdict.specs.Report.{hashed_in}
use Rattle.dnsv_verdict.specs.Way.{LeadTo, names_on}
use Rattle.dnsv_verdict.specs.declared.link.Link.{Link}

-- the links lead from some name to a last one, and the hashes are those for the name of each, and for the last
pub record AreOnWay (case : CaseContents) (links : List Link) (hashes : List HashedQuestion) : Type 0 where
  pub t : ℕ
  pub name : Labels
  pub last : Labels
  pub leads : LeadTo (basis_by case) t name links last
  pub each_name : hashes ≡ map (hashed_in case.rrsets) (names_on links last)
