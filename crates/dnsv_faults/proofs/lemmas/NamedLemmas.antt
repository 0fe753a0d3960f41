-- The zone keys that a signature names.
use Rattle.std.proofs.Common.{◌≡◌, ℕ, List, map, sym, ap, ◌∙◌, subst}
use Rattle.std.proofs.lemmas.List.Kept.{Contains-dedup_nat, Contains-from_dedup}
use Rattle.std.proofs.lemmas.List.Sorted.{Contains-permutation, IsPermutation-sym}
use Rattle.std.proofs.lemmas.Map.Keys.{IsStrictlyIncreasing-dedup}
use Rattle.std.specs.List.{dedup}
use Rattle.std.specs.List.Sorted.{IsStrictlyIncreasing}
use Rattle.std.specs.Ordering.{nat_cmp}
use Rattle.std.specs.Prelude.{Contains, IsPermutation, IsSortedByKey}
use lib.Dec.{eqb}
use Rattle.dnsv_names.specs.RisingLaws.{map-dedup}
use Rattle.dnsv_canonical.specs.Rrsets.{ReceivedRrset}
use Rattle.dnsv_canonical.proofs.OrderLemmas.{each_member}
use Rattle.dnsv_records.specs.declared.rrsig.Rrsig.{Rrsig}
use Rattle.dnsv_mending.specs.declared.facts.signature.NamedKey.{NamedKey}
use Rattle.dnsv_verifier.proofs.NumberLemmas.{contains_map}
use Rattle.dnsv_verifier.specs.Asking.{GivesEach}
use Rattle.dnsv_chain.specs.Basis.{Basis}
use Rattle.dnsv_zone_keys.specs.Answers.AnswerSearch.{ArePutInOrder, IsSaidOf}
use Rattle.dnsv_zone_keys.specs.Keys.Index.{Placed}
use Rattle.dnsv_zone_keys.specs.Keys.KeySearch.{AreNamedOf}
use Rattle.dnsv_zone_keys.specs.Keys.{IsKeyPlaced, IsZoneKey}
use Rattle.dnsv_faults.specs.Signatures.{AreNamedKeys, IsNamedKey}
use Rattle.dnsv_zone_keys.proofs.lemmas.IndexLemmas.{found_as, of_signer, zone_key_too}
use Rattle.dnsv_faults.proofs.lemmas.OrderLemmas.{sorted_map}

abbrev pub place_of : NamedKey → ℕ
place_of named = named.key

-- what a sort and then a `dedup` leave
pub put_in_order : {X : Type 0} (number : X → ℕ) (old sorted new : List X) → IsPermutation old sorted → IsSortedByKey number nat_cmp sorted
    → new ≡ dedup (λ a b. eqb (number a) (number b)) sorted → ArePutInOrder number old new
put_in_order {X} number old sorted new moved ordered is =
    let places : map number new ≡ dedup eqb (map number sorted) = ap (map number) is ∙ map-dedup number eqb sorted in record {
      rising = subst IsStrictlyIncreasing (sym places) (IsStrictlyIncreasing-dedup (map number sorted) (sorted_map number (λ n. n) nat_cmp sorted ordered));
      kept = λ x there.
          Contains-permutation sorted old x (IsPermutation-sym old sorted moved)
          (Contains-from_dedup (λ (a : X) (b : X). eqb (number a) (number b)) sorted x (subst (λ (xs : List X). Contains xs x) is there));
      all = λ x there.
          subst (λ (ns : List ℕ). Contains ns (number x)) (sym places)
          (Contains-dedup_nat (map number sorted) (number x) (contains_map number sorted x (Contains-permutation old sorted x moved there)));
    }

module _ (basis : Basis) (rrset : ReceivedRrset) (rrsig : Rrsig) (found : List Placed) (are : AreNamedOf basis.rrsets rrsig found) where
  abbrev Said : Placed → NamedKey → Type 0
  Said = IsSaidOf basis.meaning basis.moment rrset rrsig

  abbrev Signs : Placed → Type 0
  Signs placed = IsZoneKey placed.key

  pub named_are : (signing put : List NamedKey) → GivesEach Said Signs found signing → ArePutInOrder place_of signing put → AreNamedKeys basis rrset rrsig put
  named_are signing put gives order = record {
    rising = order.rising;
    each = each_member (IsNamedKey basis rrset rrsig) put (λ named there.
        let of_key = gives.only named (order.kept named there) in
        let placed = of_key.source in
        let by_signer = are.each placed of_key.among in
        let at = of_signer basis.rrsets are.all are.indexed rrsig found are.among are.every placed of_key.among by_signer.owner in record {
          key = placed.key;
          placed = subst (λ (n : ℕ). IsKeyPlaced basis.rrsets rrsig.signer n placed.key) (sym of_key.is.place) at;
          meant = record { named = by_signer.named; zone_key = of_key.is.zone_key };
          answered = of_key.is.answered;
        });
    all = λ place key is its.
        let known = found_as basis.rrsets are.all are.indexed rrsig found are.among are.every place key is its.named in
        let own = zone_key_too basis.rrsets are.all are.indexed rrsig found are.among are.every known.placed.key key known.dnskey its.zone_key in
        let given = gives.all known.placed known.there own in
        let there = order.all given.0 given.1 in
        subst (λ (n : ℕ). Contains (map place_of put) n) (given.2.place ∙ known.place_is) there;
  }
