-- The small zone meets the premises of the laws, and has a proof of no such name.
use Rattle.std.proofs.Common.{◌≡◌, ◌≤◌, ◌⊎◌, true, false, IsTrue, List, [], ◌∷◌, length, refl, sym, inl, inr, ⊎_elim, arith}
use Rattle.std.specs.List.{AllByRecursion}
use Rattle.std.proofs.lemmas.Cmp.{tied_itself}
use Rattle.std.specs.Cmp.{IsTotalOrder}
use Rattle.std.specs.declared.cmp.Ordering.{Ordering}
use Rattle.std.specs.declared.cmp.Ordering.TheVariants.{Equal}
use Rattle.dnsv_names.specs.Name.{Labels, SameName, same_name, IsAtOrBelow}
use Rattle.dnsv_names.specs.Order.OrderLaws.{canonical_cmp_total, same_name_Decides}
use Rattle.dnsv_names.specs.Tree.{wildcard_of}
use Rattle.dnsv_names.specs.Tree.Keys.{is_at_or_below}
use Rattle.dnsv_names.specs.Circle.{Gap, has}
use Rattle.dnsv_names.specs.Circle.CircleLaws.{gap_respects}
use Rattle.dnsv_names.specs.Tree.TreeLaws.{at_or_below_respects, below_length, same_labels, is_at_or_below_Decides}
use Rattle.dnsv_zones.specs.zones.TypeNumbers.{dname}
use Rattle.dnsv_zones.specs.zones.Types.{IsDelegation}
use Rattle.dnsv_zones.specs.zones.Zone.{IsOwner, Holds, IsClosedAt, IsWellFormed, HasNoWildcardDelegation}
use Rattle.dnsv_zones.specs.chains.NsecChain.{IsBitmapOf, owners, HasNsecRecords}
use Rattle.dnsv_zones.specs.forms.Nsec.{nsec_words}
use Rattle.dnsv_zones.specs.examples.Example.{e_name, a_name, b_name, s_name, apex_types, address_types, cut_types, zone, records}
use Rattle.dnsv_zones.specs.forms.Forms.{NoNameForm}

pub differ : (a b : Labels) → same_name a b ≡ false → ¬ SameName a b
differ a b test same = let yes = (same_name_Decides a b).1 same in cc

-- the name has an owner of two labels or one
short : (name : Labels) → IsOwner zone name → length name ≤ 2
short name owner =
    ⊎_elim (λ (same : SameName e_name name). omega (arith, same_labels e_name name same))
    (λ (rest : SameName a_name name ⊎ (SameName s_name name ⊎ ⊥)).
    ⊎_elim (λ (same : SameName a_name name). omega (arith, same_labels a_name name same))
    (λ (last : SameName s_name name ⊎ ⊥). ⊎_elim (λ (same : SameName s_name name). omega (arith, same_labels s_name name same)) (λ (none : ⊥). absurd none) last)
    rest)
    owner.entry

-- what ends the zone is `s.e.`
the_cut : (name : Labels) → IsClosedAt zone name → SameName s_name name
the_cut name closed =
    ⊎_elim (λ (delegation : IsDelegation (Holds zone name)).
    ⊎_elim (λ (at_apex : SameName e_name name × IsTrue true). absurd (delegation.no_apex (record { entry = inl (at_apex.0, refl) })))
    (λ (rest : (SameName a_name name × IsTrue false) ⊎ ((SameName s_name name × IsTrue true) ⊎ ⊥)).
    ⊎_elim (λ (at_a : SameName a_name name × IsTrue false). let no = at_a.1 in cc)
    (λ (last : (SameName s_name name × IsTrue true) ⊎ ⊥). ⊎_elim (λ (at_s : SameName s_name name × IsTrue true). at_s.0) (λ (none : ⊥). absurd none) last)
    rest)
    delegation.servers.entry)
    (λ (alias : Holds zone name dname).
    ⊎_elim (λ (at_apex : SameName e_name name × IsTrue false). let no = at_apex.1 in cc)
    (λ (rest : (SameName a_name name × IsTrue false) ⊎ ((SameName s_name name × IsTrue false) ⊎ ⊥)).
    ⊎_elim (λ (at_a : SameName a_name name × IsTrue false). let no = at_a.1 in cc)
    (λ (last : (SameName s_name name × IsTrue false) ⊎ ⊥). ⊎_elim (λ (at_s : SameName s_name name × IsTrue false). at_s.0) (λ (none : ⊥). absurd none) last)
    rest)
    alias.entry)
    closed

within : (name : Labels) → IsOwner zone name → IsAtOrBelow name e_name
within name owner =
    ⊎_elim (λ (same : SameName e_name name). at_or_below_respects e_name name e_name e_name same refl ([], refl))
    (λ (rest : SameName a_name name ⊎ (SameName s_name name ⊎ ⊥)).
    ⊎_elim (λ (same : SameName a_name name). at_or_below_respects a_name name e_name e_name same refl ((97 ∷ []) ∷ [], refl))
    (λ (last : SameName s_name name ⊎ ⊥).
    ⊎_elim (λ (same : SameName s_name name). at_or_below_respects s_name name e_name e_name same refl ((115 ∷ []) ∷ [], refl)) (λ (none : ⊥). absurd none) last)
    rest)
    owner.entry

pub well_formed : IsWellFormed zone
well_formed = record {
  apex = record { entry = inl (refl, refl) };
  no_other_apex = λ name holds.
      ⊎_elim (λ (at_apex : SameName e_name name × IsTrue true). sym at_apex.0)
      (λ (rest : (SameName a_name name × IsTrue false) ⊎ ((SameName s_name name × IsTrue false) ⊎ ⊥)).
      ⊎_elim (λ (at_a : SameName a_name name × IsTrue false). let no = at_a.1 in absurd (cc))
      (λ (last : (SameName s_name name × IsTrue false) ⊎ ⊥). ⊎_elim (λ (at_s : SameName s_name name × IsTrue false). let no = at_s.1 in absurd (cc)) (λ (none : ⊥). absurd none) last)
      rest)
      holds.entry;
  within = within;
  ends = λ cut name closed owner below.
      absurd (omega (arith, below_length name cut below, same_labels s_name cut (the_cut cut closed), short name owner));
}

pub no_wildcard_delegation : HasNoWildcardDelegation zone
no_wildcard_delegation = λ parent delegation.
    let same = the_cut (wildcard_of parent) (inl delegation) in let test = (same_name_Decides s_name (wildcard_of parent)).1 same in cc

-- no member lies in a gap where each of the list doesn't
pub none_inside : {K : Type 0} {cmp : K → K → Ordering} → IsTotalOrder cmp → (o n : K) (members : List K) → AllByRecursion (λ m. ¬ Gap cmp o n m) members → (x : K) → has cmp members x → ¬ Gap cmp o n x
none_inside {K} {cmp} total o n [] outside x none gap = none
none_inside {K} {cmp} total o n (m ∷ members) outside x some gap =
    ⊎_elim (λ (tied : cmp x m ≡ Equal). outside.0 (gap_respects total o n m (tied_itself total o) (tied_itself total n) tied gap))
    (λ (rest : has cmp members x). none_inside total o n members outside.1 x rest gap) some

pub apex_bitmap : IsBitmapOf zone e_name apex_types
apex_bitmap = record {
  all = λ t holds.
      ⊎_elim (λ (here : SameName e_name e_name × IsTrue (apex_types t)). here.1)
      (λ (rest : (SameName a_name e_name × IsTrue (address_types t)) ⊎ ((SameName s_name e_name × IsTrue (cut_types t)) ⊎ ⊥)).
      ⊎_elim (λ (other : SameName a_name e_name × IsTrue (address_types t)). absurd (differ a_name e_name refl other.0))
      (λ (last : (SameName s_name e_name × IsTrue (cut_types t)) ⊎ ⊥).
      ⊎_elim (λ (other : SameName s_name e_name × IsTrue (cut_types t)). absurd (differ s_name e_name refl other.0)) (λ (none : ⊥). absurd none) last)
      rest)
      holds.entry;
  no_more = λ t bit. inl (record { entry = inl (refl, bit) });
}

pub a_bitmap : IsBitmapOf zone a_name address_types
a_bitmap = record {
  all = λ t holds.
      ⊎_elim (λ (other : SameName e_name a_name × IsTrue (apex_types t)). absurd (differ e_name a_name refl other.0))
      (λ (rest : (SameName a_name a_name × IsTrue (address_types t)) ⊎ ((SameName s_name a_name × IsTrue (cut_types t)) ⊎ ⊥)).
      ⊎_elim (λ (here : SameName a_name a_name × IsTrue (address_types t)). here.1)
      (λ (last : (SameName s_name a_name × IsTrue (cut_types t)) ⊎ ⊥).
      ⊎_elim (λ (other : SameName s_name a_name × IsTrue (cut_types t)). absurd (differ s_name a_name refl other.0)) (λ (none : ⊥). absurd none) last)
      rest)
      holds.entry;
  no_more = λ t bit. inl (record { entry = inr (inl (refl, bit)) });
}

-- both are of the chain
pub has_records : HasNsecRecords zone e_name records
has_records = record {
  well_formed = well_formed;
  same_apex = refl;
  in_chain = (
    record {
      owner = record { entry = inl refl };
      next = record {
        member = record { there = inr (inl refl) };
        none_between = λ x member. none_inside canonical_cmp_total e_name a_name (owners zone) (
          (λ gap. let less = gap.lies.0 in cc),
          ((λ gap. let less = gap.lies.1 in cc), ((λ gap. let less = gap.lies.1 in cc), tt)),
        ) x member.there;
      };
      types = apex_bitmap;
    },
    (
      record {
        owner = record { entry = inr (inl refl) };
        next = record {
          member = record { there = inr (inr (inl refl)) };
          none_between = λ x member. none_inside canonical_cmp_total a_name s_name (owners zone) (
            (λ gap. let less = gap.lies.0 in cc),
            ((λ gap. let less = gap.lies.0 in cc), ((λ gap. let less = gap.lies.1 in cc), tt)),
          ) x member.there;
        };
        types = a_bitmap;
      },
      tt,
    ),
  );
}

not_below : (name above : Labels) → is_at_or_below name above ≡ false → ¬ IsAtOrBelow name above
not_below name above test under = let yes = (is_at_or_below_Decides name above).1 under in cc

-- and they prove that there is no `b.e.`
pub form : NoNameForm (nsec_words e_name records) e_name b_name
form = record {
  labels = 1;
  ends = record {
    above = record { proper = omega arith; within = ([], refl) };
    encloser = inl refl;
    next_closer = inr (inl (record {
      covers = record { lies = (refl, refl) };
      no_cut_above = λ below. absurd (not_below b_name a_name refl below.0);
      nothing_below = not_below s_name b_name refl;
    }));
  };
  wildcard = inl (record {
    covers = record { lies = (refl, refl) };
    no_cut_above = λ below closed.
        ⊎_elim (λ (delegation : IsDelegation (λ t. IsTrue (apex_types t))). delegation.no_apex refl) (λ (alias : IsTrue false). cc) closed;
    nothing_below = not_below a_name (wildcard_of e_name) refl;
  });
}
