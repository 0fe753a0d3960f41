-- Owners, nodes and ends of a zone.
use Rattle.std.proofs.Common.{◌≡◌, ℕ, ◌+◌, ◌<◌, ◌⊎◌, IsTrue, length, refl, sym, ap, ◌∙◌, inl, inr, ⊎_elim, arith, subst}
use Rattle.dnsv_names.specs.Name.{Labels, lower_case, SameName, IsAtOrBelow, rightmost}
use Rattle.dnsv_names.specs.Order.{IsBelow}
use Rattle.dnsv_names.specs.Tree.{wildcard_of}
use Rattle.dnsv_names.specs.Tree.TreeLaws.{same_at_or_below, at_or_below_trans, at_or_below_cases, at_trans_below, below_trans_at}
use Rattle.dnsv_names.specs.Tree.AncestorLaws.{rightmost_all, rightmost_in_line, above_or_next, wildcard_below}
use Rattle.dnsv_zones.specs.zones.TypeNumbers.{ns, soa, dname}
use Rattle.dnsv_zones.specs.zones.Types.{IsDelegation}
use Rattle.dnsv_zones.specs.zones.Zone.{Entry, Zone, IsOwner, Holds, IsNode, IsClosedAt, IsWellFormed}
use Rattle.dnsv_zones.specs.zones.Lookup.{IsClosestEncloser}
use Rattle.dnsv_zones.proofs.lemmas.AnyLemmas.{any_map, found}

pub holds_owner : (zone : Zone) (name : Labels) (t : ℕ) → Holds zone name t → IsOwner zone name
holds_owner zone name t holds = record {
  entry = any_map (λ each. SameName each.owner name × IsTrue (each.types t)) (λ each. SameName each.owner name) zone.entries (λ each there. there.0) holds.entry;
}

pub holds_respects : (zone : Zone) (a b : Labels) (t : ℕ) → SameName a b → Holds zone a t → Holds zone b t
holds_respects zone a b t same holds = record {
  entry = any_map (λ each. SameName each.owner a × IsTrue (each.types t)) (λ each. SameName each.owner b × IsTrue (each.types t)) zone.entries
      (λ each there. (there.0 ∙ same, there.1)) holds.entry;
}

pub owner_respects : (zone : Zone) (a b : Labels) → SameName a b → IsOwner zone a → IsOwner zone b
owner_respects zone a b same owner = record {
  entry = any_map (λ each. SameName each.owner a) (λ each. SameName each.owner b) zone.entries (λ each there. there ∙ same) owner.entry;
}

pub delegation_respects : (zone : Zone) (a b : Labels) → SameName a b → IsDelegation (Holds zone a) → IsDelegation (Holds zone b)
delegation_respects zone a b same delegation = record {
  servers = holds_respects zone a b ns same delegation.servers;
  no_apex = λ apex. delegation.no_apex (holds_respects zone b a soa (sym same) apex);
}

pub closed_respects : (zone : Zone) (a b : Labels) → SameName a b → IsClosedAt zone a → IsClosedAt zone b
closed_respects zone a b same closed =
    ⊎_elim (λ (delegation : IsDelegation (Holds zone a)). inl (delegation_respects zone a b same delegation))
    (λ (alias : Holds zone a dname). inr (holds_respects zone a b dname same alias)) closed

pub closed_owner : (zone : Zone) (name : Labels) → IsClosedAt zone name → IsOwner zone name
closed_owner zone name closed =
    ⊎_elim (λ (delegation : IsDelegation (Holds zone name)). holds_owner zone name ns delegation.servers)
    (λ (alias : Holds zone name dname). holds_owner zone name dname alias) closed

-- an owner at or below a node
pub record OwnerUnder (zone : Zone) (name : Labels) : Type 0 where
  pub owner : Labels
  pub is_owner : IsOwner zone owner
  pub under : IsAtOrBelow owner name

pub owner_under : (zone : Zone) (name : Labels) → IsNode zone name → OwnerUnder zone name
owner_under zone name node =
    let there = found (λ (each : Entry). IsAtOrBelow each.owner name) zone.entries node.entry in
    record {
      owner = there.member.owner;
      is_owner = record {
        entry = any_map (λ each. each ≡ there.member) (λ each. SameName each.owner there.member.owner) zone.entries
            (λ each is. ap (λ (e : Entry). lower_case e.owner) is) there.is_there;
      };
      under = there.holds;
    }

pub node_of_owner : (zone : Zone) (owner name : Labels) → IsOwner zone owner → IsAtOrBelow owner name → IsAtOrBelow name zone.apex → IsNode zone name
node_of_owner zone owner name is_owner under within = record {
  within = within;
  entry = any_map (λ each. SameName each.owner owner) (λ each. IsAtOrBelow each.owner name) zone.entries
      (λ each same. at_or_below_trans each.owner owner name (same_at_or_below each.owner owner same) under) is_owner.entry;
}

pub owner_node : (zone : Zone) (name : Labels) → IsWellFormed zone → IsOwner zone name → IsNode zone name
owner_node zone name well is_owner = node_of_owner zone name name is_owner (same_at_or_below name name refl) (well.within name is_owner)

pub closed_node : (zone : Zone) (name : Labels) → IsWellFormed zone → IsClosedAt zone name → IsNode zone name
closed_node zone name well closed = owner_node zone name well (closed_owner zone name closed)

pub apex_node : (zone : Zone) → IsWellFormed zone → IsNode zone zone.apex
apex_node zone well = owner_node zone zone.apex well (holds_owner zone zone.apex soa well.apex)

-- no node is below a delegation or a DNAME
pub node_not_below : (zone : Zone) (cut node : Labels) → IsWellFormed zone → IsClosedAt zone cut → IsNode zone node → ¬ IsBelow node cut
node_not_below zone cut node well closed is_node below =
    let there = owner_under zone node is_node in
    well.ends cut there.owner closed there.is_owner (at_trans_below there.owner node cut there.under below)

-- what is above a node and in the zone is a node
pub node_above : (zone : Zone) (node above : Labels) → IsNode zone node → IsAtOrBelow node above → IsAtOrBelow above zone.apex → IsNode zone above
node_above zone node above is_node under within =
    let there = owner_under zone node is_node in
    node_of_owner zone there.owner above there.is_owner (at_or_below_trans there.owner node above there.under under) within

pub node_respects : (zone : Zone) (a b : Labels) → SameName a b → IsNode zone a → IsNode zone b
node_respects zone a b same node =
    node_above zone a b node (same_at_or_below a b same) (at_or_below_trans b a zone.apex (same_at_or_below b a (sym same)) node.within)

-- where a node's next closer name isn't there, the node is the closest encloser
pub closest : (zone : Zone) (name : Labels) (labels : ℕ) → labels < length name → IsNode zone (rightmost name labels) → ¬ IsNode zone (rightmost name (labels + 1)) → IsClosestEncloser zone name labels
closest zone name labels proper node none = record {
  proper = proper;
  node = node;
  closest = λ more above within longer.
      let next = rightmost name (labels + 1) in
      let inside : IsAtOrBelow next zone.apex =
      at_or_below_trans next (rightmost name labels) zone.apex (rightmost_in_line name (labels + 1) labels (omega arith)) node.within in
      none (node_above zone (rightmost name more) next longer (rightmost_in_line name more (labels + 1) (omega arith)) inside);
}

-- the closest encloser is at or below each node above the name
pub encloser_below : (zone : Zone) (name node : Labels) (labels : ℕ) → IsClosestEncloser zone name labels → IsAtOrBelow name node → IsNode zone node → IsAtOrBelow (rightmost name labels) node
encloser_below zone name node labels encloser under is_node =
    let next = rightmost name (labels + 1) in
    ⊎_elim (λ (above : IsAtOrBelow (rightmost name labels) node). above)
    (λ (longer : IsAtOrBelow node next).
    let inside : IsAtOrBelow next zone.apex =
    at_or_below_trans next (rightmost name labels) zone.apex (rightmost_in_line name (labels + 1) labels (omega arith)) encloser.node.within in
    absurd (encloser.closest (labels + 1) (omega arith) (omega (arith, encloser.proper)) (node_above zone node next is_node longer inside)))
    (above_or_next name node labels encloser.proper under)

-- the name itself is no node
pub name_no_node : (zone : Zone) (name : Labels) (labels : ℕ) → IsClosestEncloser zone name labels → ¬ IsNode zone name
name_no_node zone name labels encloser node =
    let whole : name ≡ rightmost name (length name) = sym (rightmost_all name (length name) (omega arith)) in
    encloser.closest (length name) encloser.proper (omega arith) (subst (λ (n : Labels). IsNode zone n) whole node)

-- nothing above the name is closed, where the closest encloser isn't, or has a node below it
pub nothing_closed : (zone : Zone) (name : Labels) (labels : ℕ) → IsWellFormed zone → IsClosestEncloser zone name labels → (¬ IsClosedAt zone (rightmost name labels)) ⊎ IsNode zone (wildcard_of (rightmost name labels)) → (cut : Labels) → IsBelow name cut → ¬ IsClosedAt zone cut
nothing_closed zone name labels well encloser free cut below closed =
    let ce = rightmost name labels in
    let line : IsAtOrBelow ce cut = encloser_below zone name cut labels encloser below.0 (closed_node zone cut well closed) in
    ⊎_elim (λ (same : SameName ce cut).
    ⊎_elim (λ (free_here : ¬ IsClosedAt zone ce). free_here (closed_respects zone cut ce (sym same) closed))
    (λ (wildcard : IsNode zone (wildcard_of ce)).
    node_not_below zone cut (wildcard_of ce) well closed wildcard (below_trans_at (wildcard_of ce) ce cut (wildcard_below ce) line))
    free)
    (λ (under : IsBelow ce cut). node_not_below zone cut ce well closed encloser.node under)
    (at_or_below_cases ce cut line)
