-- What an NSEC record of a zone's chain proves.
use Rattle.std.proofs.Common.{◌≡◌, List, [], ◌∷◌, map, sym, inl, inr, ⊎_elim}
use Rattle.std.specs.declared.cmp.Ordering.TheVariants.{Equal}
use Rattle.dnsv_names.specs.Name.{Labels, SameName, IsAtOrBelow}
use Rattle.dnsv_names.specs.Order.{canonical_cmp, IsBelow}
use Rattle.dnsv_names.specs.Order.OrderLaws.{canonical_Equal, SameName_Equal}
use Rattle.dnsv_names.specs.Circle.{has, IsMember}
use Rattle.dnsv_names.specs.Tree.TreeLaws.{same_at_or_below, at_or_below_cases, below_trans_at}
use Rattle.dnsv_zones.specs.Any.{Any}
use Rattle.dnsv_zones.specs.zones.Zone.{Entry, Zone, IsOwner, IsNode, IsClosedAt, IsWellFormed}
use Rattle.dnsv_zones.specs.chains.NsecChain.{NsecRecord, owners, IsInNsecChain}
use Rattle.dnsv_zones.specs.forms.Nsec.{Covers, IsNoCutAbove, IsAbsentBy, IsEmptyNonTerminalBy, IsNodeBy}
use Rattle.dnsv_names.specs.Circle.NameCircleLaws.{owner_at_or_below, next_at_or_below}
use Rattle.dnsv_zones.proofs.lemmas.zones.ZoneLemmas.{closed_respects, closed_owner, owner_under, node_of_owner}
use Rattle.dnsv_zones.proofs.lemmas.chains.BitmapLemmas.{closed_bits}

-- owners are members of the circle
member_by : (name : Labels) (entries : List Entry) → Any (λ each. SameName each.owner name) entries → has canonical_cmp (map (λ each. each.owner) entries) name
member_by name [] some = absurd some
member_by name (entry ∷ entries) some =
    ⊎_elim (λ (same : SameName entry.owner name). inl (SameName_Equal name entry.owner (sym same)))
    (λ (rest : Any (λ each. SameName each.owner name) entries). inr (member_by name entries rest)) some

pub member_of_owner : (zone : Zone) (name : Labels) → IsOwner zone name → IsMember canonical_cmp (owners zone) name
member_of_owner zone name owner = record { there = member_by name zone.entries owner.entry }

owner_by : (name : Labels) (entries : List Entry) → has canonical_cmp (map (λ each. each.owner) entries) name → Any (λ each. SameName each.owner name) entries
owner_by name [] some = absurd some
owner_by name (entry ∷ entries) some =
    ⊎_elim (λ (tied : canonical_cmp name entry.owner ≡ Equal). inl (sym (canonical_Equal name entry.owner tied)))
    (λ (rest : has canonical_cmp (map (λ each. each.owner) entries) name). inr (owner_by name entries rest)) some

pub owner_of_member : (zone : Zone) (name : Labels) → IsMember canonical_cmp (owners zone) name → IsOwner zone name
owner_of_member zone name member = record { entry = owner_by name zone.entries member.there }

-- ---- the words

module _ (zone : Zone) (r : NsecRecord) (there : IsInNsecChain zone r) (name : Labels) where
  -- no owner is covered
  pub covered_no_owner : Covers r name → ¬ IsOwner zone name
  covered_no_owner covers owner = there.next.none_between name (member_of_owner zone name owner) covers

  -- the owner before a name is the end of the zone above the name, where there is one
  pub owner_is_the_end : (cut : Labels) → IsWellFormed zone → Covers r name → IsClosedAt zone cut → IsBelow name cut → SameName r.owner cut
  owner_is_the_end cut well covers closed below =
      let outside = there.next.none_between cut (member_of_owner zone cut (closed_owner zone cut closed)) in
      ⊎_elim (λ (same : SameName r.owner cut). same)
      (λ (inside : IsBelow r.owner cut). absurd (well.ends cut r.owner closed there.owner inside))
      (at_or_below_cases r.owner cut (owner_at_or_below r.owner r.next name cut outside covers below.0))

  -- nothing above a name that a record covers, which is no cut above it, is closed
  pub covered_open_above : (cut : Labels) → IsWellFormed zone → Covers r name → IsNoCutAbove r name → IsBelow name cut → ¬ IsClosedAt zone cut
  covered_open_above cut well covers no_cut_above below closed =
      let same : SameName r.owner cut = owner_is_the_end cut well covers closed below in
      no_cut_above (below_trans_at name cut r.owner below (same_at_or_below cut r.owner (sym same)))
      (closed_bits zone r.owner r.types there.types (closed_respects zone cut r.owner (sym same) closed))

  -- a name that the record proves absent is no node
  pub absent_no_node : IsAbsentBy r name → ¬ IsNode zone name
  absent_no_node absent node =
      let some = owner_under zone name node in
      let outside = there.next.none_between some.owner (member_of_owner zone some.owner some.is_owner) in
      absent.nothing_below (next_at_or_below r.owner r.next name some.owner outside absent.covers some.under)

  -- an empty non-terminal is a node and no owner
  pub empty_non_terminal_node : IsAtOrBelow name zone.apex → IsEmptyNonTerminalBy r name → IsNode zone name
  empty_non_terminal_node within empty_non_terminal = node_of_owner zone r.next name (owner_of_member zone r.next there.next.member) empty_non_terminal.some_below within

  pub told_node : IsAtOrBelow name zone.apex → IsNodeBy r name → IsNode zone name
  told_node within told =
      ⊎_elim (λ (under : IsAtOrBelow r.owner name). node_of_owner zone r.owner name there.owner under within)
      (λ (under : IsAtOrBelow r.next name). node_of_owner zone r.next name (owner_of_member zone r.next there.next.member) under within) told
