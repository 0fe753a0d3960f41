-- How many SHA-1 digests hash names for NSEC3 where several names are judged (RFC 5155 5, 8).
use Rattle.std.specs.Prelude.{◌≡◌, ◌+◌, ◌*◌, ◌≤◌, ℕ, List, length}
use Rattle.std.specs.List.{sum_by}
use Rattle.dnsv_names.specs.Count.{counted}
use Rattle.dnsv_names.specs.Name.{Labels}
use Rattle.dnsv_records.specs.declared.nsec3.Nsec3Parameters.{Nsec3Parameters}
use Rattle.dnsv_canonical.specs.Evidence.{AreParameters, AreParametersAmong, nsec3_rdata}
use Rattle.dnsv_canonical.specs.Rrsets.{ReceivedRrset}
use Rattle.dnsv_proof_forms.specs.QuestionHashes.{HashedQuestion}
use Rattle.dnsv_zones.specs.chains.HashedNames.{hashes_for}

-- how many a question of each of the names makes, added up
abbrev pub hashes_on : List Labels → List Nsec3Parameters → ℕ
hashes_on names all = sum_by (λ name. hashes_for name all) names

-- so many digests hash the names that a question of this one asks for, or the greatest number where these are more
abbrev pub AreDigestsFor : HashedQuestion → ℕ → Type 0
AreDigestsFor question digests =
    (all : List Nsec3Parameters) → AreParameters (nsec3_rdata question.rrsets) all
    → digests ≡ counted 0 (hashes_for question.name all)

-- so many digests: for each of the names, with each iterations and salt of a usable NSEC3 record
pub record IsNumberHashedOn (rrsets : List ReceivedRrset) (names : List Labels) (count : ℕ) : Type 0 where
  pub all : List Nsec3Parameters
  pub are : AreParameters (nsec3_rdata rrsets) all
  pub is : count ≡ hashes_on names all

-- for each name at most 8 iterations and salts, each with at most so many iterations, and twice the labels and one more
abbrev pub IsFewHashedOn : List ReceivedRrset → List Labels → ℕ → Type 0
IsFewHashedOn rrsets names count =
    (most : ℕ) → ((each : Nsec3Parameters) → AreParametersAmong (nsec3_rdata rrsets) each → each.iterations.0 ≤ most)
    → count ≤ sum_by (λ name. 8 * ((2 * length name + 1) * (most + 1))) names
