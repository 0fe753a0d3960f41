-- Each zone has a chain of either kind.
use Rattle.std.proofs.Common.{◌≡◌, ℕ, zero, suc, ◌+◌, ◌-◌, ◌≤◌, ◌⊎◌, Bool, true, false, IsTrue, List, [], ◌∷◌, ◌++◌, map, length, refl, ap, ◌∙◌, inl, inr, ⊎_elim, arith}
use Rattle.std.proofs.lemmas.Cmp.{nat_list_cmp_total}
use Rattle.std.specs.List.{AllByRecursion}
use Rattle.dnsv_names.specs.Name.{Labels, lower_case, SameName, IsAtOrBelow, rightmost}
use Rattle.dnsv_names.specs.Order.{canonical_cmp, label_cmp}
use Rattle.dnsv_names.specs.Order.OrderLaws.{canonical_cmp_total}
use Rattle.dnsv_names.specs.Circle.{IsMember, IsSuccessor}
use Rattle.dnsv_names.specs.Circle.CircleLaws.{successor_among}
use Rattle.dnsv_names.specs.Tree.TreeLaws.{same_at_or_below, at_or_below_trans, at_or_below_length}
use Rattle.dnsv_names.specs.Tree.AncestorLaws.{rightmost_above, rightmost_same, rightmost_in_line}
use Rattle.dnsv_zones.specs.zones.TypeNumbers.{soa}
use Rattle.dnsv_zones.specs.Any.{Any}
use Rattle.dnsv_zones.specs.zones.Zone.{Entry, Zone, IsOwner, IsNode, IsWellFormed, HasNoWildcardDelegation}
use Rattle.dnsv_zones.specs.chains.NsecChain.{NsecRecord, IsBitmapOf, owners, IsInNsecChain, IsNsecChainOf}
use Rattle.dnsv_zones.specs.chains.Nsec3Chain.{Nsec3Record, NameHash, IsChained, AreChainNames, IsInNsec3Chain, IsNsec3ChainOf}
use Rattle.dnsv_zones.proofs.lemmas.AnyLemmas.{any_map}
use Rattle.dnsv_zones.proofs.lemmas.zones.ZoneLemmas.{holds_owner, apex_node, node_of_owner, node_respects}
use Rattle.dnsv_zones.proofs.lemmas.zones.AnswerLemmas.{Decided, holds_decided}
use Rattle.dnsv_zones.proofs.lemmas.chains.NsecLemmas.{member_of_owner}
use Rattle.dnsv_zones.proofs.lemmas.meaning.Nsec3Truth.{hash_member}

-- lists made of lists
all_of_map : {X Y : Type 0} (f : X → Y) (Q : Y → Type 0) (xs : List X) → ((x : X) → Any (λ each. each ≡ x) xs → Q (f x)) → AllByRecursion Q (map f xs)
all_of_map f Q [] each = tt
all_of_map f Q (x ∷ xs) each = (each x (inl refl), all_of_map f Q xs (λ y there. each y (inr there)))

any_of_map : {X Y : Type 0} (f : X → Y) (P : Y → Type 0) (xs : List X) → Any (λ x. P (f x)) xs → Any P (map f xs)
any_of_map f P [] some = absurd some
any_of_map f P (x ∷ xs) some = ⊎_elim (λ (here : P (f x)). inl here) (λ (rest : Any (λ y. P (f y)) xs). inr (any_of_map f P xs rest)) some

any_left : {X : Type 0} (P : X → Type 0) (xs ys : List X) → Any P xs → Any P (xs ++ ys)
any_left P [] ys some = absurd some
any_left P (x ∷ xs) ys some = ⊎_elim (λ (here : P x). inl here) (λ (rest : Any P xs). inr (any_left P xs ys rest)) some

pub any_right : {X : Type 0} (P : X → Type 0) (xs ys : List X) → Any P ys → Any P (xs ++ ys)
any_right P [] ys some = some
any_right P (x ∷ xs) ys some = inr (any_right P xs ys some)

any_split : {X : Type 0} (P : X → Type 0) (xs ys : List X) → Any P (xs ++ ys) → Any P xs ⊎ Any P ys
any_split P [] ys some = inr some
any_split P (x ∷ xs) ys some =
    ⊎_elim (λ (here : P x). inl (inl here))
    (λ (rest : Any P (xs ++ ys)). ⊎_elim (λ (left : Any P xs). inl (inr left)) (λ (right : Any P ys). inr right) (any_split P xs ys rest)) some

-- a test of what is decided
test_of : {P : Type 0} → Decided P → Bool
test_of (inl p) = true
test_of (inr no_p) = false

test_yes : {P : Type 0} (d : Decided P) → P → IsTrue (test_of d)
unfolding test_of
test_yes (inl q) p = refl
test_yes (inr no_p) p = absurd (no_p p)

test_told : {P : Type 0} (d : Decided P) → IsTrue (test_of d) → P
unfolding test_of
test_told (inl p) told = p
test_told (inr no_p) told = absurd (cc)

-- the types of a name
types_of : Zone → Labels → ℕ → Bool
types_of zone name t = test_of (holds_decided zone name t)

types_bitmap : (zone : Zone) (name : Labels) → IsBitmapOf zone name (types_of zone name)
unfolding types_of
types_bitmap zone name = record {
  all = λ t holds. test_yes (holds_decided zone name t) holds;
  no_more = λ t bit. inl (test_told (holds_decided zone name t) bit);
}

module _ (zone : Zone) (well : IsWellFormed zone) where
  apex_member : IsMember canonical_cmp (owners zone) zone.apex
  apex_member = member_of_owner zone zone.apex (holds_owner zone zone.apex soa well.apex)

  next_owner : (owner : Labels) → (next : Labels) × IsSuccessor canonical_cmp (owners zone) owner next
  next_owner owner = successor_among canonical_cmp_total (owners zone) zone.apex owner apex_member

  nsec_of : Entry → NsecRecord
  nsec_of each = record { owner = each.owner; next = (next_owner each.owner).0; types = types_of zone each.owner }

  pub nsec_chain : HasNoWildcardDelegation zone → (records : List NsecRecord) × IsNsecChainOf zone zone.apex records
  unfolding nsec_of
  nsec_chain wildcards = (
    map nsec_of zone.entries,
    record {
      has_records = record {
        well_formed = well;
        same_apex = refl;
        in_chain = all_of_map nsec_of (IsInNsecChain zone) zone.entries (λ each there. record {
          owner = record { entry = any_map (λ other. other ≡ each) (λ other. SameName other.owner each.owner) zone.entries (λ other is. rw is refl) there };
          next = (next_owner each.owner).1;
          types = types_bitmap zone each.owner;
        });
      };
      each_owner = λ name owner. any_of_map nsec_of (λ r. SameName r.owner name) zone.entries owner.entry;
      wildcards = wildcards;
    },
  )

-- the rightmost labels of an owner, from `base` labels on, `more` of them and one
parts : Labels → ℕ → ℕ → List Labels
parts owner base zero = rightmost owner base ∷ []
parts owner base (suc more) = rightmost owner (base + suc more) ∷ parts owner base more

part_there : (owner : Labels) (base more labels : ℕ) → base ≤ labels → labels ≤ base + more → Any (λ each. SameName each (rightmost owner labels)) (parts owner base more)
unfolding parts
part_there owner base zero labels low high =
    let same : base ≡ labels = omega arith in inl (ap (λ n. lower_case (rightmost owner n)) same)
part_there owner base (suc more) labels low high =
    let cases : (base + suc more ≡ labels) ⊎ (labels ≤ base + more) = grind arith in
    ⊎_elim (λ (same : base + suc more ≡ labels). inl (ap (λ n. lower_case (rightmost owner n)) same))
    (λ (fewer : labels ≤ base + more). inr (part_there owner base more labels low fewer)) cases

-- the nodes that entries make
nodes_from : Zone → List Entry → List Labels
nodes_from zone [] = []
nodes_from zone (each ∷ entries) = parts each.owner (length zone.apex) (length each.owner - length zone.apex) ++ nodes_from zone entries

module _ (zone : Zone) (well : IsWellFormed zone) where
  -- so many labels of an owner, no fewer than the apex has, are a node
  part_node : (owner : Labels) (labels : ℕ) → IsOwner zone owner → length zone.apex ≤ labels → IsNode zone (rightmost owner labels)
  part_node owner labels is_owner low =
      let within = well.within owner is_owner in
      let above : IsAtOrBelow (rightmost owner labels) zone.apex =
      at_or_below_trans (rightmost owner labels) (rightmost owner (length zone.apex)) zone.apex
      (rightmost_in_line owner labels (length zone.apex) low)
      (same_at_or_below (rightmost owner (length zone.apex)) zone.apex (rightmost_same owner zone.apex within)) in
      node_of_owner zone owner (rightmost owner labels) is_owner (rightmost_above owner labels) above

  parts_nodes : (owner : Labels) (more : ℕ) (name : Labels) → IsOwner zone owner → Any (λ each. SameName each name) (parts owner (length zone.apex) more) → IsNode zone name
  unfolding parts
  parts_nodes owner zero name is_owner some =
      ⊎_elim (λ (same : SameName (rightmost owner (length zone.apex)) name).
      node_respects zone (rightmost owner (length zone.apex)) name same (part_node owner (length zone.apex) is_owner (omega arith)))
      (λ (none : ⊥). absurd none) some
  parts_nodes owner (suc more) name is_owner some =
      ⊎_elim (λ (same : SameName (rightmost owner (length zone.apex + suc more)) name).
      node_respects zone (rightmost owner (length zone.apex + suc more)) name same (part_node owner (length zone.apex + suc more) is_owner (omega arith)))
      (λ (rest : Any (λ each. SameName each name) (parts owner (length zone.apex) more)). parts_nodes owner more name is_owner rest) some

  are_nodes : (entries : List Entry) (name : Labels) → ((each : Entry) → Any (λ other. other ≡ each) entries → IsOwner zone each.owner) → Any (λ each. SameName each name) (nodes_from zone entries) → IsNode zone name
  unfolding nodes_from
  are_nodes [] name owned some = absurd some
  are_nodes (first ∷ entries) name owned some =
      ⊎_elim (λ (here : Any (λ each. SameName each name) (parts first.owner (length zone.apex) (length first.owner - length zone.apex))).
      parts_nodes first.owner (length first.owner - length zone.apex) name (owned first (inl refl)) here)
      (λ (rest : Any (λ each. SameName each name) (nodes_from zone entries)). are_nodes entries name (λ each there. owned each (inr there)) rest)
      (any_split (λ each. SameName each name) (parts first.owner (length zone.apex) (length first.owner - length zone.apex)) (nodes_from zone entries) some)

  node_there : (entries : List Entry) (name : Labels) → IsAtOrBelow name zone.apex → Any (λ each. IsAtOrBelow each.owner name) entries → Any (λ each. SameName each name) (nodes_from zone entries)
  unfolding nodes_from
  node_there [] name within some = absurd some
  node_there (first ∷ entries) name within some =
      let front = parts first.owner (length zone.apex) (length first.owner - length zone.apex) in
      ⊎_elim (λ (under : IsAtOrBelow first.owner name).
      let shorter : length name ≤ length first.owner = at_or_below_length first.owner name under in
      let longer : length zone.apex ≤ length name = at_or_below_length name zone.apex within in
      let same : SameName (rightmost first.owner (length name)) name = rightmost_same first.owner name under in
      any_left (λ each. SameName each name) front (nodes_from zone entries)
      (any_map (λ each. SameName each (rightmost first.owner (length name))) (λ each. SameName each name) front (λ each there. there ∙ same)
      (part_there first.owner (length zone.apex) (length first.owner - length zone.apex) (length name) longer (omega arith))))
      (λ (rest : Any (λ each. IsAtOrBelow each.owner name) entries).
      any_right (λ each. SameName each name) front (nodes_from zone entries) (node_there entries name within rest))
      some

  owned : (each : Entry) → Any (λ other. other ≡ each) zone.entries → IsOwner zone each.owner
  owned each there = record {
    entry = any_map (λ other. other ≡ each) (λ other. SameName other.owner each.owner) zone.entries (λ other is. ap (λ (e : Entry). lower_case e.owner) is) there;
  }

  names : List Labels
  names = nodes_from zone zone.entries

  node_chained : (name : Labels) → IsNode zone name → IsChained names name
  unfolding names
  node_chained name node = record { entry = node_there zone.entries name node.within node.entry }

  chain_names : AreChainNames zone names
  unfolding names
  chain_names = record {
    nodes = λ name chained. are_nodes zone.entries name owned chained.entry;
    all = λ name node. inl (node_chained name node);
  }

  next_hash : (hash : NameHash) (value : List ℕ) → (next : List ℕ) × IsSuccessor label_cmp (map hash.of names) value next
  next_hash hash value =
      successor_among nat_list_cmp_total (map hash.of names) (hash.of zone.apex) value
      (hash_member hash names zone.apex (node_chained zone.apex (apex_node zone well)))

  nsec3_of : NameHash → Labels → Nsec3Record
  nsec3_of hash name = record {
    hash = hash.of name;
    next = (next_hash hash (hash.of name)).0;
    flags = 0;
    types = types_of zone name;
    parameters = hash.parameters;
  }

  pub nsec3_chain : (hash : NameHash) → HasNoWildcardDelegation zone → (records : List Nsec3Record) × IsNsec3ChainOf zone zone.apex hash records × AllByRecursion (λ r. r.flags ≡ 0) records
  unfolding nsec3_of
  nsec3_chain hash wildcards = (
    map (nsec3_of hash) names,
    record {
      has_records = record {
        well_formed = well;
        same_apex = refl;
        names = names;
        chain_names = chain_names;
        in_chain = all_of_map (nsec3_of hash) (IsInNsec3Chain zone hash names) names (λ name there. record {
          same_parameters = refl;
          name = name;
          is_chained = record { entry = any_map (λ other. other ≡ name) (λ other. SameName other name) names (λ other is. ap lower_case is) there };
          is_hash = refl;
          next = (next_hash hash (hash.of name)).1;
          types = types_bitmap zone name;
          flags = omega arith;
          without_opt_out = λ no_flags node is_node gap. (next_hash hash (hash.of name)).1.none_between (hash.of node) (hash_member hash names node (node_chained node is_node)) gap;
        });
      };
      each_name = λ name chained. any_of_map (nsec3_of hash) (λ r. r.hash ≡ hash.of name) names
          (any_map (λ each. SameName each name) (λ each. hash.of each ≡ hash.of name) names (λ each same. hash.respects_case each name same) chained.entry);
      wildcards = wildcards;
    },
    all_of_map (nsec3_of hash) (λ r. r.flags ≡ 0) names (λ name there. refl),
  )
