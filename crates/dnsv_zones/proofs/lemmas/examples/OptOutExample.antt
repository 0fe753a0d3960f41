-- The small zone meets the premises of the laws under Opt-Out, with its delegation left out of the chain.
use Rattle.std.proofs.Common.{◌≡◌, ℕ, ◌⊎◌, IsTrue, true, false, List, [], ◌∷◌, ◌++◌, length, length-append, map, refl, sym, ap, inl, inr, ⊎_elim, arith}
use Rattle.std.proofs.lemmas.Cmp.{nat_list_cmp_total}
use Rattle.std.specs.declared.cmp.Ordering.TheVariants.{Less}
use Rattle.dnsv_names.specs.Name.{Labels, SameName, IsAtOrBelow, lower_case, wire}
use Rattle.dnsv_names.specs.Order.{IsBelow, label_cmp}
use Rattle.dnsv_names.specs.Tree.AncestorLaws.{parent_at_or_below}
use Rattle.dnsv_names.specs.Tree.TreeLaws.{at_or_below_antisymm, at_or_below_cases}
use Rattle.dnsv_names.specs.Name.WireLaws.{wire_not_empty}
use Rattle.dnsv_zones.specs.Any.{Any}
use Rattle.dnsv_zones.specs.examples.Example.{e_name, a_name, s_name, apex_types, zone}
use Rattle.dnsv_zones.specs.forms.Nsec3.{OptOutForm}
use Rattle.dnsv_zones.specs.chains.Nsec3Chain.{IsUnsignedEnd, IsChained, HasNsec3Records, IsNsec3ChainOf, HasNoCollision}
use Rattle.dnsv_zones.specs.chains.Nsec3Chain.IsUnsignedEnd.{delegation}
use Rattle.dnsv_zones.specs.examples.OptOutExample.{wire_hash, opt_out_records}
use Rattle.dnsv_zones.specs.zones.TypeNumbers.{ds}
use Rattle.dnsv_zones.specs.zones.Types.{IsDelegation, IsUnsignedDelegation}
use Rattle.dnsv_zones.specs.zones.Zone.{Holds, IsNode}
use Rattle.dnsv_zones.proofs.lemmas.examples.Example.{differ, none_inside, well_formed, no_wildcard_delegation, apex_bitmap, a_bitmap}
use Rattle.dnsv_zones.proofs.lemmas.zones.ZoneLemmas.{apex_node, delegation_respects, holds_respects, node_respects, owner_node}

-- ---- no two names have one hash

parted : (l m x y : List ℕ) → length l ≡ length m → l ++ x ≡ m ++ y → (l ≡ m) × (x ≡ y)
parted [] [] x y size same = (refl, same)
parted [] (b ∷ m) x y size same = absurd (omega (arith, size))
parted (a ∷ l) [] x y size same = absurd (omega (arith, size))
parted (a ∷ l) (b ∷ m) x y size same =
    let both : a ∷ (l ++ x) ≡ b ∷ (m ++ y) = same in
    let heads : a ≡ b = cc in
    let tails : l ++ x ≡ m ++ y = cc in
    let rest = parted l m x y (omega (arith, size)) tails in
    let fronts : l ≡ m = rest.0 in
    let whole : a ∷ l ≡ b ∷ m = cc in (whole, rest.1)

no_root : (label : List ℕ) (labels : Labels) → 0 ∷ [] ≡ wire (label ∷ labels) → ⊥
no_root label labels same = omega (arith, ap length same, length-append label (wire labels), wire_not_empty labels)

wire_apart : (a b : Labels) → wire a ≡ wire b → a ≡ b
wire_apart [] [] same = refl
wire_apart [] (m ∷ b) same = absurd (no_root m b same)
wire_apart (l ∷ a) [] same = absurd (no_root l a (sym same))
wire_apart (l ∷ a) (m ∷ b) same =
    let both : length l ∷ (l ++ wire a) ≡ length m ∷ (m ++ wire b) = same in
    let sizes : length l ≡ length m = cc in
    let tails : l ++ wire a ≡ m ++ wire b = cc in
    let parts = parted l m (wire a) (wire b) sizes tails in
    let first : l ≡ m = parts.0 in
    let rest : a ≡ b = wire_apart a b parts.1 in
    cc

pub no_collision : (name : Labels) → HasNoCollision zone wire_hash name
no_collision name = λ asked node is_asked is_node same. wire_apart (lower_case node) (lower_case asked) same

-- ---- the names of the chain

pub unsigned : IsUnsignedDelegation (Holds zone s_name)
unsigned = record {
  delegation = record {
    servers = record { entry = inr (inr (inl (refl, refl))) };
    no_apex = λ holds.
        ⊎_elim (λ (at_apex : SameName e_name s_name × IsTrue true). differ e_name s_name refl at_apex.0)
        (λ (rest : (SameName a_name s_name × IsTrue false) ⊎ ((SameName s_name s_name × IsTrue false) ⊎ ⊥)). no_types rest)
        holds.entry;
  };
  no_ds = λ holds.
      ⊎_elim (λ (at_apex : SameName e_name s_name × IsTrue false). let no = at_apex.1 in cc)
      (λ (rest : (SameName a_name s_name × IsTrue false) ⊎ ((SameName s_name s_name × IsTrue false) ⊎ ⊥)). no_types rest)
      holds.entry;
} where
  no_types : (SameName a_name s_name × IsTrue false) ⊎ ((SameName s_name s_name × IsTrue false) ⊎ ⊥) → ⊥
  no_types rest =
      ⊎_elim (λ (at_a : SameName a_name s_name × IsTrue false). let no = at_a.1 in cc)
      (λ (last : (SameName s_name s_name × IsTrue false) ⊎ ⊥). ⊎_elim (λ (at_s : SameName s_name s_name × IsTrue false). let no = at_s.1 in cc) (λ (none : ⊥). none) last)
      rest

abbrev names : List Labels
names = e_name ∷ a_name ∷ []

apex_chained : (name : Labels) → SameName e_name name → IsChained names name
apex_chained name same = record { entry = inl same }

-- what is above an owner right below the apex, and in the zone, is that owner or the apex
in_line : (label : List ℕ) (name : Labels) → IsAtOrBelow name e_name → IsAtOrBelow (label ∷ e_name) name → SameName (label ∷ e_name) name ⊎ SameName e_name name
in_line label name within under =
    ⊎_elim (λ (same : SameName (label ∷ e_name) name). inl same)
    (λ (below : IsBelow (label ∷ e_name) name). inr (at_or_below_antisymm e_name name (parent_at_or_below label e_name name below) within))
    (at_or_below_cases (label ∷ e_name) name under)

unsigned_end : (name : Labels) → SameName s_name name → IsUnsignedEnd zone name
unsigned_end name same =
    delegation (record {
      delegation = delegation_respects zone s_name name same unsigned.delegation;
      no_ds = λ holds. unsigned.no_ds (holds_respects zone name s_name ds (sym same) holds);
    })

chained_or_end : (name : Labels) → IsNode zone name → IsChained names name ⊎ IsUnsignedEnd zone name
chained_or_end name node =
    ⊎_elim (λ (apex : IsAtOrBelow e_name name). inl (apex_chained name (at_or_below_antisymm e_name name apex node.within)))
    (λ (rest : IsAtOrBelow a_name name ⊎ (IsAtOrBelow s_name name ⊎ ⊥)).
    ⊎_elim (λ (a : IsAtOrBelow a_name name).
    ⊎_elim (λ (same : SameName a_name name). inl (record { entry = inr (inl same) }))
    (λ (same : SameName e_name name). inl (apex_chained name same))
    (in_line (97 ∷ []) name node.within a))
    (λ (last : IsAtOrBelow s_name name ⊎ ⊥).
    ⊎_elim (λ (s : IsAtOrBelow s_name name).
    ⊎_elim (λ (same : SameName s_name name). inr (unsigned_end name same))
    (λ (same : SameName e_name name). inl (apex_chained name same))
    (in_line (115 ∷ []) name node.within s)) (λ (none : ⊥). absurd none) last)
    rest)
    node.entry

are_nodes : (name : Labels) → IsChained names name → IsNode zone name
are_nodes name chained =
    ⊎_elim (λ (same : SameName e_name name). node_respects zone e_name name same (apex_node zone well_formed))
    (λ (rest : SameName a_name name ⊎ ⊥).
    ⊎_elim (λ (same : SameName a_name name). node_respects zone a_name name same (owner_node zone a_name well_formed (record { entry = inr (inl refl) })))
    (λ (none : ⊥). absurd none) rest)
    chained.entry

-- ---- the chain

has_records : HasNsec3Records zone e_name wire_hash opt_out_records
has_records = record {
  well_formed = well_formed;
  same_apex = refl;
  names = names;
  chain_names = record { nodes = are_nodes; all = chained_or_end };
  in_chain = (
    record {
      same_parameters = refl;
      name = a_name;
      is_chained = record { entry = inr (inl refl) };
      is_hash = refl;
      next = record {
        member = record { there = inl refl };
        none_between = λ x member. none_inside nat_list_cmp_total (wire_hash.of a_name) (wire_hash.of e_name) (map wire_hash.of names) (
          (λ gap. let less = gap.lies.1 in cc),
          ((λ gap. let less = gap.lies.0 in cc), tt),
        ) x member.there;
      };
      types = a_bitmap;
      flags = omega arith;
      without_opt_out = λ none. absurd (omega (arith, none));
    },
    (
      record {
        same_parameters = refl;
        name = e_name;
        is_chained = record { entry = inl refl };
        is_hash = refl;
        next = record {
          member = record { there = inr (inl refl) };
          none_between = λ x member. none_inside nat_list_cmp_total (wire_hash.of e_name) (wire_hash.of a_name) (map wire_hash.of names) (
            (λ gap. ⊎_elim (λ (less : label_cmp (wire_hash.of e_name) (wire_hash.of e_name) ≡ Less). cc)
                (λ (less : label_cmp (wire_hash.of e_name) (wire_hash.of a_name) ≡ Less). cc) gap.lies),
            (
              (λ gap. ⊎_elim (λ (less : label_cmp (wire_hash.of e_name) (wire_hash.of a_name) ≡ Less). cc)
                  (λ (less : label_cmp (wire_hash.of a_name) (wire_hash.of a_name) ≡ Less). cc) gap.lies),
              tt,
            ),
          ) x member.there;
        };
        types = apex_bitmap;
        flags = omega arith;
        without_opt_out = λ none. absurd (omega (arith, none));
      },
      tt,
    ),
  );
}

pub whole_chain : IsNsec3ChainOf zone e_name wire_hash opt_out_records
unfolding has_records
whole_chain = record {
  has_records = has_records;
  each_name = λ name chained.
      ⊎_elim (λ (same : SameName e_name name). inr (inl (wire_hash.respects_case e_name name same)))
      (λ (rest : SameName a_name name ⊎ ⊥).
      ⊎_elim (λ (same : SameName a_name name). inl (wire_hash.respects_case a_name name same)) (λ (none : ⊥). absurd none) rest)
      chained.entry;
  wildcards = no_wildcard_delegation;
}

pub left_out : ¬ Any (λ nsec3. nsec3.hash ≡ wire_hash.of s_name) opt_out_records
left_out some =
    ⊎_elim (λ (same : wire_hash.of a_name ≡ wire_hash.of s_name). differ a_name s_name refl (wire_apart (lower_case a_name) (lower_case s_name) same))
    (λ (rest : (wire_hash.of e_name ≡ wire_hash.of s_name) ⊎ ⊥).
    ⊎_elim (λ (same : wire_hash.of e_name ≡ wire_hash.of s_name). differ e_name s_name refl (wire_apart (lower_case e_name) (lower_case s_name) same))
    (λ (none : ⊥). none) rest)
    some

-- and the records say that `s.e.` may be left out
pub form : OptOutForm wire_hash opt_out_records e_name s_name 1
form = record {
  above = record { proper = omega arith; within = ([], refl) };
  encloser = inr (inl (
    record { same_parameters = refl; same_hash = refl },
    λ closed.
        ⊎_elim (λ (is : IsDelegation (λ t. IsTrue (apex_types t))). is.no_apex refl) (λ (alias : IsTrue false). cc) closed,
  ));
  next_closer = inr (inl (record { same_parameters = refl; gap = record { lies = inl refl } }));
  opted_out = inl (inr (inl (record { same_parameters = refl; gap = record { lies = inl refl } }, λ none. omega (arith, none))));
}
