-- How many digests hash the names of a way: so few that a count of them is exact.
use Rattle.std.proofs.Common.{◌≡◌, ℕ, ◌+◌, ◌*◌, ◌≤◌, List, [], ◌∷◌, ◌++◌, length, refl, sym, subst, inl, inr, arith}
use Rattle.std.proofs.lemmas.List.Sums.{sum_by-cons, sum_by-le-sum_by, sum_by_push}
use Rattle.std.proofs.lemmas.Nat.{mul-le}
use Rattle.std.specs.List.{AllByRecursion, sum_by}
use Rattle.std.specs.Prelude.{min}
use Rattle.dnsv_names.specs.Count.{count_limit, counted}
use Rattle.dnsv_names.specs.Name.{IsName, Labels}
use Rattle.dnsv_names.specs.Name.WireLaws.{length-wire}
use Rattle.dnsv_records.specs.declared.nsec3.Nsec3Parameters.{Nsec3Parameters}
use Rattle.dnsv_zones.specs.chains.HashedNames.{hashes_for}
use Rattle.dnsv_canonical.proofs.CanonicalLemmas.{IsMember, Contains-from_member, member_passes}
use Rattle.dnsv_canonical.proofs.LimitLemmas.{few_where_distinct}
use Rattle.dnsv_canonical.specs.Evidence.{AreParameters, AreParametersAmong, AtMost, nsec3_rdata}
use Rattle.dnsv_canonical.specs.Rrsets.{ReceivedRrset}
use Rattle.dnsv_verdict.specs.Report.Hashed.{IsFewHashedOn, IsNumberHashedOn, hashes_on}

sum_at_most : {X : Type 0} (f : X → ℕ) (m : ℕ) (xs : List X) → ((x : X) → IsMember x xs → f x ≤ m) → sum_by f xs ≤ length xs * m
sum_at_most f m [] each = omega arith
sum_at_most f m (x ∷ xs) each =
    let first = each x (inl refl) in
    let rest = sum_at_most f m xs (λ y there. each y (inr there)) in
    let whole = sum_by-cons f x xs in
    omega (arith, first, rest, whole)

few : (received : List (List ℕ)) (name : Labels) (all : List Nsec3Parameters) → AtMost 8 (AreParametersAmong received) → AreParameters received all
    → (most : ℕ) → ((each : Nsec3Parameters) → AreParametersAmong received each → each.iterations.0 ≤ most)
    → hashes_for name all ≤ 8 * ((2 * length name + 1) * (most + 1))
few received name all limit are most each =
    let names : ℕ = 2 * length name + 1 in
    let shorter : length all ≤ 8 = (few_where_distinct (AreParametersAmong received) 8 all are.distinct are.members).1 limit in
    let sum : hashes_for name all ≤ length all * (names * (most + 1)) =
    sum_at_most (λ (p : Nsec3Parameters). names * (p.iterations.0 + 1)) (names * (most + 1)) all
    (λ p there. mul-le names (p.iterations.0 + 1) names (most + 1) (omega arith) (let one = each p ((are.members p).0 (Contains-from_member all p there)) in omega (arith, one))) in
    let product : length all * (names * (most + 1)) ≤ 8 * (names * (most + 1)) = mul-le (length all) (names * (most + 1)) 8 (names * (most + 1)) shorter (omega arith) in
    omega (arith, sum, product)

usable : (received : List (List ℕ)) (each : Nsec3Parameters) → AreParametersAmong received each → each.iterations.0 ≤ 500
usable received each among = subst (λ (p : Nsec3Parameters). p.iterations.0 ≤ 500) (sym among.2.3) among.2.2.iterations

at_most : (labels : ℕ) → labels ≤ 127 → 8 * ((2 * labels + 1) * (500 + 1)) ≤ 1022040
at_most labels few = omega arith

-- ---- several names

-- one name more
pub hashes_more : (names : List Labels) (name : Labels) (all : List Nsec3Parameters)
    → hashes_on (names ++ name ∷ []) all ≡ hashes_on names all + hashes_for name all
hashes_more names name all = sum_by_push (λ each. hashes_for each all) names name

few_on : (received : List (List ℕ)) (names : List Labels) (all : List Nsec3Parameters) → AtMost 8 (AreParametersAmong received)
    → AreParameters received all → (most : ℕ) → ((each : Nsec3Parameters) → AreParametersAmong received each → each.iterations.0 ≤ most)
    → hashes_on names all ≤ sum_by (λ name. 8 * ((2 * length name + 1) * (most + 1))) names
few_on received names all limit are most each =
    sum_by-le-sum_by (λ name. hashes_for name all) (λ (name : Labels). 8 * ((2 * length name + 1) * (most + 1))) names
    (λ name. few received name all limit are most each)

few_labels : (name : Labels) → IsName name → length name ≤ 127
few_labels name is = omega (arith, length-wire name is.each, is.at_most_255)

few_for : (rrsets : List ReceivedRrset) (name : Labels) (all : List Nsec3Parameters) → AtMost 8 (AreParametersAmong (nsec3_rdata rrsets))
    → AreParameters (nsec3_rdata rrsets) all → IsName name → hashes_for name all ≤ 1022040
few_for rrsets name all limit are is =
    omega (arith, few (nsec3_rdata rrsets) name all limit are 500 (usable (nsec3_rdata rrsets)), at_most (length name) (few_labels name is))

at_most_each : (rrsets : List ReceivedRrset) (all : List Nsec3Parameters) → AtMost 8 (AreParametersAmong (nsec3_rdata rrsets))
    → AreParameters (nsec3_rdata rrsets) all → (names : List Labels) → AllByRecursion IsName names
    → hashes_on names all ≤ length names * 1022040
at_most_each rrsets all limit are names each =
    sum_at_most (λ name. hashes_for name all) 1022040 names
    (λ name there. few_for rrsets name all limit are (member_passes IsName names name each there))

exact : (limit n : ℕ) → n ≤ limit → min (0 + n) limit ≡ n
exact limit n few = omega arith

below_the_limit : 9198360 ≤ count_limit
below_the_limit = omega arith

not_stopped : (limit n count : ℕ) → n ≤ count * 1022040 → count ≤ 9 → 9198360 ≤ limit → n ≤ limit
not_stopped limit n count a b c = omega arith

pub counted_exactly : (rrsets : List ReceivedRrset) (names : List Labels) (all : List Nsec3Parameters)
    → AtMost 8 (AreParametersAmong (nsec3_rdata rrsets)) → AreParameters (nsec3_rdata rrsets) all → AllByRecursion IsName names
    → length names ≤ 9 → counted 0 (hashes_on names all) ≡ hashes_on names all
counted_exactly rrsets names all limit are each short =
    exact count_limit (hashes_on names all)
    (not_stopped count_limit (hashes_on names all) (length names) (at_most_each rrsets all limit are names each) short below_the_limit)

pub few_hashed_on : (rrsets : List ReceivedRrset) (names : List Labels) (count : ℕ) → AtMost 8 (AreParametersAmong (nsec3_rdata rrsets))
    → IsNumberHashedOn rrsets names count → IsFewHashedOn rrsets names count
few_hashed_on rrsets names count limit hashed most each =
    let bound = few_on (nsec3_rdata rrsets) names hashed.all limit hashed.are most each in
    subst (λ n. n ≤ sum_by (λ (name : Labels). 8 * ((2 * length name + 1) * (most + 1))) names) (sym hashed.is) bound
