-- What the questions of one case share.
use Rattle.std.proofs.Common.{◌≡◌, ◌<◌, ◌≤◌, List, [], ◌∷◌, ◌++◌, length, arith, length-append}
use Rattle.std.specs.Prelude.{Contains}
use Rattle.dnsv_names.specs.Name.{Labels}
use Rattle.dnsv_canonical.proofs.CanonicalLemmas.{IsMember-from_contains, member_passes}
use Rattle.dnsv_canonical.specs.Rrsets.{ReceivedRrset}
use Rattle.dnsv_proof_forms.specs.QuestionHashes.{HashedQuestion}
use Rattle.dnsv_verdict.specs.Shared.{AreHashedIn}
use Rattle.dnsv_verdict.specs.Report.{hashed_in}

-- one that is kept for the name is the one of the evidence
pub kept_is : (rrsets : List ReceivedRrset) (names : List HashedQuestion) (kept : HashedQuestion) (name : Labels)
    → AreHashedIn rrsets names → Contains names kept → kept.name ≡ name → kept ≡ hashed_in rrsets name
kept_is rrsets names kept name are there for_it =
    let of : kept.rrsets ≡ rrsets = member_passes (λ (each : HashedQuestion). each.rrsets ≡ rrsets) names kept are (IsMember-from_contains names kept there) in
    λ i. record { rrsets = of i; name = for_it i }

-- one more
pub one_hashed_more : (rrsets : List ReceivedRrset) (names : List HashedQuestion) (made : HashedQuestion)
    → AreHashedIn rrsets names → made.rrsets ≡ rrsets → AreHashedIn rrsets (names ++ made ∷ [])
one_hashed_more rrsets [] made are is = (is, tt)
one_hashed_more rrsets (first ∷ names) made are is = (are.0, one_hashed_more rrsets names made are.1 is)

-- where there is room, no more are there than may be, and one more has a place
pub fewer : (names : List HashedQuestion) → length names < 9 → length names ≤ 9
fewer names room = omega (arith, room)

pub few_more : (names : List HashedQuestion) (made : HashedQuestion) → length names < 9 → length (names ++ made ∷ []) ≤ 9
few_more names made room = omega (arith, room, length-append names (made ∷ []))
