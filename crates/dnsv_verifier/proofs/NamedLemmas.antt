-- The keys that a signature names, among keys in order of what they are named by.
use Rattle.std.proofs.Common.{◌≡◌, ℕ, ◌+◌, ◌-◌, ◌<◌, ◌≤◌, true, false, ⊎_elim, List, length, get_or, take, drop, refl, sym, ap, ◌∙◌, subst, arith}
use Rattle.std.proofs.lemmas.Bool.{cases_lt}
use Rattle.std.proofs.lemmas.Cmp.{nat_cmp_total, on_total, tied_back, then_total, tied_itself}
use Rattle.std.proofs.lemmas.List.{get_or-drop, get_or-take, length-drop, length-take}
use Rattle.std.proofs.lemmas.List.Sorted.{Contains-permutation, IsNonDecreasingBy-drop, IsPermutation-sym, searchable_from_sorted}
use Rattle.std.specs.Cmp.{IsTotalOrder}
use Rattle.std.specs.Prelude.{IsTrue}
use Rattle.std.specs.List.{Contains}
use Rattle.std.specs.List.Sorted.{IsNonDecreasingBy, IsPartitionedBy, IsPartitionPoint, IsPermutation, IsSortedByKey}
use Rattle.std.specs.Ordering.{is_le, is_lt, nat_cmp, ordering_index, ordering_then}
use Rattle.std.specs.declared.cmp.Ordering.{Ordering}
use Rattle.std.specs.declared.cmp.Ordering.TheVariants.{Equal}
use Rattle.dnsv_names.specs.RisingLaws.{le_before, lt_before}
use Rattle.dnsv_names.specs.Order.{canonical_cmp}
use Rattle.dnsv_names.specs.Order.OrderLaws.{SameName_Equal, canonical_Equal, canonical_cmp_total}
use Rattle.dnsv_canonical.specs.Rrsets.{ReceivedRrset}
use Rattle.dnsv_records.specs.Algorithm.{is_supported}
use Rattle.dnsv_records.specs.Dnskey.KeyTag.{key_tag_of}
use Rattle.dnsv_records.specs.declared.rrsig.Rrsig.{Rrsig}
use Rattle.dnsv_verifier.specs.Admissible.{DnskeyRecord, MayHaveMade}
use Rattle.dnsv_verifier.specs.Asking.{AreKeysOf, CanSign, KeyName, key_name_cmp, name_of_key, named_by}
use Rattle.dnsv_verifier.specs.EntryLaws.{octet_Equal, then_Equal}

pub key_name_cmp_total : IsTotalOrder key_name_cmp
key_name_cmp_total =
    then_total (then_total (on_total (λ (n : KeyName). n.tag) nat_cmp_total) (on_total (λ (n : KeyName). n.algorithm) nat_cmp_total)) (on_total (λ (n : KeyName). n.owner) canonical_cmp_total)

tied_numbers : (a b : ℕ) → a ≡ b → nat_cmp a b ≡ Equal
tied_numbers a b same = ap (λ n. nat_cmp a n) (sym same) ∙ tied_itself nat_cmp_total a

-- a key that may have made the signature is named by it
pub named_key : (rrsig : Rrsig) (key : DnskeyRecord) → MayHaveMade key rrsig
    → key_name_cmp (name_of_key key) (named_by rrsig) ≡ Equal
named_key rrsig key made =
    let tags = tied_numbers (key_tag_of key.rdata) rrsig.key_tag.0 made.named.key_tag in
    let algorithms = tied_numbers key.dnskey.algorithm.0 rrsig.algorithm.0 made.named.algorithm in
    let owners = SameName_Equal key.owner rrsig.signer made.zone_key.owner in
    rw (tags, algorithms, owners) refl

-- a signature that names a key which can sign may be that key's
pub made_by_name : (rrsig : Rrsig) (key : DnskeyRecord) → CanSign key → key_name_cmp (named_by rrsig) (name_of_key key) ≡ Equal
    → MayHaveMade key rrsig
made_by_name rrsig key signs tied =
    let owner = then_Equal (ordering_then (nat_cmp rrsig.key_tag.0 (key_tag_of key.rdata)) (nat_cmp rrsig.algorithm.0 key.dnskey.algorithm.0)) (canonical_cmp rrsig.signer key.owner) tied in
    let numbers = then_Equal (nat_cmp rrsig.key_tag.0 (key_tag_of key.rdata)) (nat_cmp rrsig.algorithm.0 key.dnskey.algorithm.0) owner.0 in
    let algorithm : rrsig.algorithm.0 ≡ key.dnskey.algorithm.0 = octet_Equal rrsig.algorithm.0 key.dnskey.algorithm.0 numbers.1 in
    record {
      zone_key = record {
        owner = canonical_Equal key.owner rrsig.signer (tied_back canonical_cmp_total rrsig.signer key.owner owner.1);
        protocol = signs.protocol;
        zone_key = signs.zone_key;
      };
      named = record {
        algorithm = sym algorithm;
        key_tag = sym (octet_Equal rrsig.key_tag.0 (key_tag_of key.rdata) numbers.0);
        supported = subst (λ n. IsTrue (is_supported n)) (sym algorithm) signs.supported;
      };
    }

-- a key that may have made a signature can sign
pub made_can_sign : (rrsig : Rrsig) (key : DnskeyRecord) → MayHaveMade key rrsig → CanSign key
made_can_sign rrsig key made = record {
  protocol = made.zone_key.protocol;
  zone_key = made.zone_key.zone_key;
  supported = subst (λ n. IsTrue (is_supported n)) (sym made.named.algorithm) made.named.supported;
}

pub all_moved : (rrsets : List ReceivedRrset) (keys sorted : List DnskeyRecord) → IsPermutation keys sorted
    → AreKeysOf rrsets keys → AreKeysOf rrsets sorted
all_moved rrsets keys sorted moves are key = (
  λ found. (are key).0 (Contains-permutation sorted keys key (IsPermutation-sym keys sorted moves) found),
  λ among. Contains-permutation keys sorted key moves ((are key).1 among),
)

-- what has names, in order of them
module _ {X : Type 0} (name_of : X → KeyName) where
  module _ (xs : List X) (sorted : IsSortedByKey name_of key_name_cmp xs) (name : KeyName) where
    rises : IsNonDecreasingBy (λ x. ordering_index (key_name_cmp (name_of x) name)) xs
    rises = searchable_from_sorted key_name_cmp_total name_of xs name sorted

    pub lt_parts : IsPartitionedBy (λ x. is_lt (key_name_cmp (name_of x) name)) xs
    lt_parts i j d before within lt =
        lt_before (key_name_cmp (name_of (get_or xs i d)) name) (key_name_cmp (name_of (get_or xs j d)) name) (rises i j d before within) lt

    pub le_parts : (start : ℕ) → IsPartitionedBy (λ x. is_le (key_name_cmp (name_of x) name)) (drop start xs)
    le_parts start i j d before within le =
        let rest_rises = IsNonDecreasingBy-drop (λ x. ordering_index (key_name_cmp (name_of x) name)) start xs rises in
        le_before (key_name_cmp (name_of (get_or (drop start xs) i d)) name) (key_name_cmp (name_of (get_or (drop start xs) j d)) name) (rest_rises i j d before within) le

-- a part of a list has what it has
contains_rest : {X : Type 0} (start : ℕ) (xs : List X) (x : X) → Contains (drop start xs) x → Contains xs x
contains_rest start xs x (k, within, at) =
    (start + k, omega (arith, within, length-drop start xs), sym (get_or-drop start xs k x) ∙ at)

contains_front : {X : Type 0} (count : ℕ) (xs : List X) (x : X) → Contains (take count xs) x → Contains xs x
contains_front count xs x (k, within, at) =
    let counts = length-take count xs in
    (k, omega (arith, within), sym (get_or-take count xs k x (omega (arith, within))) ∙ at)

pub named_among : {X : Type 0} (xs : List X) (start count : ℕ) (x : X) → Contains (take count (drop start xs)) x → Contains xs x
named_among xs start count x found =
    contains_rest start xs x (contains_front count (drop start xs) x found)

lt_or_le : (order : Ordering) → is_lt order ≡ false → is_le order ≡ true → order ≡ Equal
lt_or_le Equal lt le = refl
lt_or_le order lt le = cc

module _ {X : Type 0} (name_of : X → KeyName) (xs : List X) (name : KeyName) (start count : ℕ)
    (from : IsPartitionPoint (λ x. is_lt (key_name_cmp (name_of x) name) ≡ true) (λ x. is_lt (key_name_cmp (name_of x) name) ≡ false) xs start)
    (to : IsPartitionPoint (λ x. is_le (key_name_cmp (name_of x) name) ≡ true) (λ x. is_le (key_name_cmp (name_of x) name) ≡ false) (drop start xs) count) where
  not_before : (k : ℕ) (x : X) → get_or xs k x ≡ x → key_name_cmp (name_of x) name ≡ Equal → k < start → ⊥
  not_before k x at tied before =
      let lt : is_lt (key_name_cmp (name_of x) name) ≡ true =
      subst (λ (other : X). is_lt (key_name_cmp (name_of other) name) ≡ true) at (from.0 k x (omega arith) before) in
      let not_lt : is_lt (key_name_cmp (name_of x) name) ≡ false = ap is_lt tied in
      let clash : true ≡ false = sym lt ∙ not_lt in cc

  not_behind : (j : ℕ) (x : X) → j < length (drop start xs) → get_or (drop start xs) j x ≡ x → key_name_cmp (name_of x) name ≡ Equal → count ≤ j → ⊥
  not_behind j x within at tied behind =
      let not_le : is_le (key_name_cmp (name_of x) name) ≡ false =
      subst (λ (other : X). is_le (key_name_cmp (name_of other) name) ≡ false) at (to.1 j x behind within) in
      let le : is_le (key_name_cmp (name_of x) name) ≡ true = ap is_le tied in
      let clash : true ≡ false = sym le ∙ not_le in cc

  here : (x : X) (k : ℕ) → k < length xs → get_or xs k x ≡ x → key_name_cmp (name_of x) name ≡ Equal → start ≤ k → Contains (take count (drop start xs)) x
  here x k within at tied behind =
      let place : start + (k - start) ≡ k = omega arith in
      let at_rest : get_or (drop start xs) (k - start) x ≡ x = get_or-drop start xs (k - start) x ∙ ap (λ (n : ℕ). get_or xs n x) place ∙ at in
      let inside : k - start < length (drop start xs) = omega (arith, length-drop start xs) in
      ⊎_elim
      (λ before. (k - start, omega (arith, before, inside, length-take count (drop start xs)), get_or-take count (drop start xs) (k - start) x before ∙ at_rest))
      (λ past. absurd (not_behind (k - start) x inside at_rest tied past))
      (cases_lt (k - start) count)

  pub named_all : (x : X) → Contains xs x → key_name_cmp (name_of x) name ≡ Equal → Contains (take count (drop start xs)) x
  named_all x (k, within, at) tied =
      ⊎_elim (λ before. absurd (not_before k x at tied before)) (λ behind. here x k within at tied behind) (cases_lt k start)

  pub named_just : (x : X) → Contains (take count (drop start xs)) x → key_name_cmp (name_of x) name ≡ Equal
  named_just x (k, within, at) =
      let counts = length-take count (drop start xs) in
      let rest = length-drop start xs in
      let below : k < count = omega (arith, within) in
      let inside : k < length (drop start xs) = omega (arith, within) in
      let at_rest : get_or (drop start xs) k x ≡ x = sym (get_or-take count (drop start xs) k x below) ∙ at in
      let at_all : get_or xs (start + k) x ≡ x = sym (get_or-drop start xs k x) ∙ at_rest in
      let not_lt : is_lt (key_name_cmp (name_of x) name) ≡ false =
      subst (λ (other : X). is_lt (key_name_cmp (name_of other) name) ≡ false) at_all (from.1 (start + k) x (omega arith) (omega arith)) in
      let le : is_le (key_name_cmp (name_of x) name) ≡ true =
      subst (λ (other : X). is_le (key_name_cmp (name_of other) name) ≡ true) at_rest (to.0 k x (omega arith) below) in
      lt_or_le (key_name_cmp (name_of x) name) not_lt le
