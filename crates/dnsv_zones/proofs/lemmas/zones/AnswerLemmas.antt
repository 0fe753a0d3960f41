-- Each question has an answer: what a lookup asks for can be decided.
use Rattle.std.proofs.Common.{◌≡◌, ◌≢◌, ℕ, zero, suc, ◌<◌, ◌≤◌, ◌⊎◌, Bool, IsTrue, List, [], ◌∷◌, length, sym, inl, inr, ⊎_elim, arith, subst}
use Rattle.std.proofs.lemmas.Bool.Decides.{Decides-eqb}
use Rattle.std.specs.Prelude.{nat_eq}
use Rattle.dnsv_names.specs.Name.{Labels, SameName, IsAtOrBelow, rightmost}
use Rattle.dnsv_names.specs.Order.{IsBelow}
use Rattle.dnsv_names.specs.Tree.{wildcard_of}
use Rattle.dnsv_names.specs.Tree.TreeLaws.{same_at_or_below, at_or_below_length, below_trans_at, decided, at_or_below_or_not, below_or_not, same_or_not}
use Rattle.dnsv_names.specs.Tree.AncestorLaws.{rightmost_all, rightmost_same}
use Rattle.dnsv_zones.specs.zones.TypeNumbers.{ns, cname, soa, dname, ds}
use Rattle.dnsv_zones.specs.Any.{Any}
use Rattle.dnsv_zones.specs.zones.Types.{IsDelegation}
use Rattle.dnsv_zones.specs.zones.Zone.{Entry, Zone, Holds, IsNode, IsClosedAt, IsWellFormed, IsOwner}
use Rattle.dnsv_zones.specs.zones.Lookup.{Answer, IsElsewhere, IsClosestEncloser, IsSource, IsLookup}
use Rattle.dnsv_zones.specs.zones.Lookup.Answer.{Held, Alias, NoData, NoName, Elsewhere}
use Rattle.dnsv_zones.specs.zones.Lookup.IsElsewhere.{outside, below_end, at_delegation, at_apex}
use Rattle.dnsv_zones.specs.zones.Lookup.IsSource.{itself, wildcard}
use Rattle.dnsv_zones.proofs.lemmas.AnyLemmas.{any_map, found}
use Rattle.dnsv_zones.proofs.lemmas.zones.ZoneLemmas.{closed_respects, closed_owner, apex_node, node_respects}

-- a fact or its opposite
abbrev pub Decided : Type 0 → Type 0
Decided P = P ⊎ ¬ P

both : {P Q : Type 0} → Decided P → Decided Q → Decided (P × Q)
both {P} {Q} (inl p) (inl q) = inl (p, q)
both {P} {Q} (inl p) (inr no_q) = inr (λ pq. no_q pq.1)
both {P} {Q} (inr no_p) q = inr (λ pq. no_p pq.0)

pub any_decided : {X : Type 0} (P : X → Type 0) → ((x : X) → Decided (P x)) → (xs : List X) → Decided (Any P xs)
any_decided P each [] = inr (λ none. none)
any_decided P each (x ∷ xs) =
    ⊎_elim (λ (here : P x). inl (inl here))
    (λ (not_here : ¬ P x).
    ⊎_elim (λ (later : Any P xs). inl (inr later))
    (λ (not_later : ¬ Any P xs). inr (λ some. ⊎_elim (λ (here : P x). not_here here) (λ (later : Any P xs). not_later later) some))
    (any_decided P each xs))
    (each x)

number_decided : (m n : ℕ) → Decided (m ≡ n)
number_decided m n = decided (nat_eq m n) (Decides-eqb m n)

bit_decided : (bit : Bool) → Decided (IsTrue bit)
bit_decided bit = decided bit (λ yes. yes, λ yes. yes)

pub owner_decided : (zone : Zone) (name : Labels) → Decided (IsOwner zone name)
owner_decided zone name =
    ⊎_elim (λ (some : Any (λ each. SameName each.owner name) zone.entries). inl (record { entry = some }))
    (λ (none : ¬ Any (λ each. SameName each.owner name) zone.entries). inr (λ owner. none owner.entry))
    (any_decided (λ each. SameName each.owner name) (λ each. same_or_not each.owner name) zone.entries)

pub holds_decided : (zone : Zone) (name : Labels) (t : ℕ) → Decided (Holds zone name t)
holds_decided zone name t =
    ⊎_elim (λ (some : Any (λ each. SameName each.owner name × IsTrue (each.types t)) zone.entries). inl (record { entry = some }))
    (λ (none : ¬ Any (λ each. SameName each.owner name × IsTrue (each.types t)) zone.entries). inr (λ holds. none holds.entry))
    (any_decided (λ each. SameName each.owner name × IsTrue (each.types t)) (λ each. both (same_or_not each.owner name) (bit_decided (each.types t))) zone.entries)

delegation_decided : (zone : Zone) (name : Labels) → Decided (IsDelegation (Holds zone name))
delegation_decided zone name =
    ⊎_elim (λ (servers : Holds zone name ns).
    ⊎_elim (λ (apex : Holds zone name soa). inr (λ delegation. delegation.no_apex apex))
    (λ (no_apex : ¬ Holds zone name soa). inl (record { servers = servers; no_apex = no_apex })) (holds_decided zone name soa))
    (λ (none : ¬ Holds zone name ns). inr (λ delegation. none delegation.servers))
    (holds_decided zone name ns)

closed_decided : (zone : Zone) (name : Labels) → Decided (IsClosedAt zone name)
closed_decided zone name =
    ⊎_elim (λ (delegation : IsDelegation (Holds zone name)). inl (inl delegation))
    (λ (no_delegation : ¬ IsDelegation (Holds zone name)).
    ⊎_elim (λ (alias : Holds zone name dname). inl (inr alias))
    (λ (no_alias : ¬ Holds zone name dname).
    inr (λ closed. ⊎_elim (λ (d : IsDelegation (Holds zone name)). no_delegation d) (λ (a : Holds zone name dname). no_alias a) closed))
    (holds_decided zone name dname))
    (delegation_decided zone name)

pub node_decided : (zone : Zone) (name : Labels) → Decided (IsNode zone name)
node_decided zone name =
    ⊎_elim (λ (within : IsAtOrBelow name zone.apex).
    ⊎_elim (λ (some : Any (λ each. IsAtOrBelow each.owner name) zone.entries). inl (record { within = within; entry = some }))
    (λ (none : ¬ Any (λ each. IsAtOrBelow each.owner name) zone.entries). inr (λ node. none node.entry))
    (any_decided (λ each. IsAtOrBelow each.owner name) (λ each. at_or_below_or_not each.owner name) zone.entries))
    (λ (out : ¬ IsAtOrBelow name zone.apex). inr (λ node. out node.within))
    (at_or_below_or_not name zone.apex)

-- the zone ends above the name
pub record EndsAbove (zone : Zone) (name : Labels) : Type 0 where
  pub cut : Labels
  pub below : IsBelow name cut
  pub closed : IsClosedAt zone cut

pub end_above_decided : (zone : Zone) (name : Labels) → Decided (EndsAbove zone name)
end_above_decided zone name =
    let IsEnd : Entry → Type 0 = λ each. IsBelow name each.owner × IsClosedAt zone each.owner in
    ⊎_elim (λ (some : Any (λ each. IsBelow name each.owner × IsClosedAt zone each.owner) zone.entries).
    let there = found (λ (each : Entry). IsBelow name each.owner × IsClosedAt zone each.owner) zone.entries some in
    inl (record { cut = there.member.owner; below = there.holds.0; closed = there.holds.1 }))
    (λ (none : ¬ Any (λ each. IsBelow name each.owner × IsClosedAt zone each.owner) zone.entries).
    inr (λ end. none (any_map (λ each. SameName each.owner end.cut) (λ each. IsBelow name each.owner × IsClosedAt zone each.owner) zone.entries
    (λ each same. (
      below_trans_at name end.cut each.owner end.below (same_at_or_below end.cut each.owner (sym same)),
      closed_respects zone end.cut each.owner (sym same) end.closed,
    ))
    (closed_owner zone end.cut end.closed).entry)))
    (any_decided (λ each. IsBelow name each.owner × IsClosedAt zone each.owner) (λ each. both (below_or_not name each.owner) (closed_decided zone each.owner)) zone.entries)

-- the most of a name's rightmost labels that are such, where the name itself isn't
pub record HasMostLabels (P : Labels → Type 0) (name : Labels) : Type 0 where
  pub labels : ℕ
  pub proper : labels < length name
  pub holds : P (rightmost name labels)
  pub most_labels : (more : ℕ) → labels < more → more ≤ length name → ¬ P (rightmost name more)

-- from k labels on none are such, and fewer are
search_down : (P : Labels → Type 0) → ((x : Labels) → Decided (P x)) → (name : Labels) (k base : ℕ) → k ≤ length name → base < k → P (rightmost name base) → ((more : ℕ) → k ≤ more → more ≤ length name → ¬ P (rightmost name more)) → HasMostLabels P name
search_down P each name zero base within below some none = absurd (omega arith)
search_down P each name (suc j) base within below some none =
    ⊎_elim (λ (here : P (rightmost name j)). record { labels = j; proper = omega arith; holds = here; most_labels = λ more above long. none more (omega arith) long })
    (λ (not_here : ¬ P (rightmost name j)).
    let other : ¬ (base ≡ j) = λ same. not_here (subst (λ (n : ℕ). P (rightmost name n)) same some) in
    search_down P each name j base (omega arith) (omega arith) some
    (λ more above long.
    let cases : (more ≡ j) ⊎ (suc j ≤ more) = grind arith in
    ⊎_elim (λ (is : more ≡ j). subst (λ (n : ℕ). ¬ P (rightmost name n)) (sym is) not_here) (λ (later : suc j ≤ more). none more later long) cases))
    (each (rightmost name j))

-- where some of the labels are such, and not the whole name, there are most of them
pub most_labels_part : (P : Labels → Type 0) → ((x : Labels) → Decided (P x)) → (name : Labels) (base : ℕ) → base ≤ length name → P (rightmost name base) → ¬ P name → HasMostLabels P name
most_labels_part P each name base within some none =
    let whole : ¬ P (rightmost name (length name)) = λ is. none (subst (λ (n : Labels). P n) (rightmost_all name (length name) (omega arith)) is) in
    let cases : (base ≡ length name) ⊎ (base < length name) = grind arith in
    ⊎_elim (λ (even : base ≡ length name). absurd (whole (subst (λ (n : ℕ). P (rightmost name n)) even some)))
    (λ (shorter : base < length name).
    search_down P each name (length name) base (omega arith) shorter some
    (λ more above fits. let is : more ≡ length name = omega arith in subst (λ (n : ℕ). ¬ P (rightmost name n)) (sym is) whole))
    cases

-- a name in the zone that is no node has a closest encloser
pub has_encloser : (zone : Zone) (name : Labels) → IsWellFormed zone → IsAtOrBelow name zone.apex → ¬ IsNode zone name → (labels : ℕ) × IsClosestEncloser zone name labels
has_encloser zone name well within none =
    let apex : SameName (rightmost name (length zone.apex)) zone.apex = rightmost_same name zone.apex within in
    let node : IsNode zone (rightmost name (length zone.apex)) =
    node_respects zone zone.apex (rightmost name (length zone.apex)) (sym apex) (apex_node zone well) in
    let part = most_labels_part (IsNode zone) (node_decided zone) name (length zone.apex) (at_or_below_length name zone.apex within) node none in
    (part.labels, record { proper = part.proper; node = part.holds; closest = part.most_labels })

-- ---- the answer

pub record HasAnswer (zone : Zone) (name : Labels) (t : ℕ) : Type 0 where
  pub answer : Answer
  pub is_lookup : IsLookup zone name t answer

answer_at : (zone : Zone) (name source : Labels) (t : ℕ) → ¬ IsElsewhere zone name t → IsSource zone name source → HasAnswer zone name t
answer_at zone name source t here is_source =
    ⊎_elim (λ (holds : Holds zone source t). record { answer = Held source; is_lookup = (here, (is_source, holds)) })
    (λ (no_type : ¬ Holds zone source t).
    ⊎_elim (λ (alias : Holds zone source cname). record { answer = Alias source; is_lookup = (here, (is_source, no_type, alias)) })
    (λ (no_alias : ¬ Holds zone source cname). record { answer = NoData source; is_lookup = (here, (is_source, no_type, no_alias)) })
    (holds_decided zone source cname))
    (holds_decided zone source t)

answer_here : (zone : Zone) (name : Labels) (t : ℕ) → IsWellFormed zone → IsAtOrBelow name zone.apex → ¬ IsElsewhere zone name t → HasAnswer zone name t
answer_here zone name t well within here =
    ⊎_elim (λ (node : IsNode zone name). answer_at zone name name t here (itself node))
    (λ (none : ¬ IsNode zone name).
    let encloser = has_encloser zone name well within none in
    let star = wildcard_of (rightmost name encloser.0) in
    ⊎_elim (λ (node : IsNode zone star). answer_at zone name star t here (wildcard encloser.0 encloser.1 node))
    (λ (no_star : ¬ IsNode zone star).
    record { answer = NoName; is_lookup = (here, record { labels = encloser.0; encloser = encloser.1; no_wildcard = no_star }) })
    (node_decided zone star))
    (node_decided zone name)

elsewhere_or_here : (zone : Zone) (name : Labels) (t : ℕ) → Decided (IsElsewhere zone name t)
elsewhere_or_here zone name t =
    ⊎_elim (λ (within : IsAtOrBelow name zone.apex).
    ⊎_elim (λ (end : EndsAbove zone name). inl (below_end end.cut end.below end.closed))
    (λ (no_end : ¬ EndsAbove zone name). inside within no_end (delegation_decided zone name) (same_or_not name zone.apex) (number_decided t ds))
    (end_above_decided zone name))
    (λ (out : ¬ IsAtOrBelow name zone.apex). inl (outside out))
    (at_or_below_or_not name zone.apex)
  where
    refuted : IsAtOrBelow name zone.apex → ¬ EndsAbove zone name → (t ≢ ds → ¬ IsDelegation (Holds zone name)) → (t ≡ ds → ¬ SameName name zone.apex) → ¬ IsElsewhere zone name t
    refuted within no_end no_cut no_apex (outside out) = out within
    refuted within no_end no_cut no_apex (below_end cut below closed) = no_end (record { cut = cut; below = below; closed = closed })
    refuted within no_end no_cut no_apex (at_delegation delegation other) = no_cut other delegation
    refuted within no_end no_cut no_apex (at_apex same is_ds) = no_apex is_ds same

    inside : IsAtOrBelow name zone.apex → ¬ EndsAbove zone name → Decided (IsDelegation (Holds zone name)) → Decided (SameName name zone.apex) → Decided (t ≡ ds) → Decided (IsElsewhere zone name t)
    inside within no_end delegation (inl same) (inl is_ds) = inl (at_apex same is_ds)
    inside within no_end delegation (inr other) (inl is_ds) = inr (refuted within no_end (λ not_ds. absurd (not_ds is_ds)) (λ is same. other same))
    inside within no_end (inl delegation) same (inr not_ds) = inl (at_delegation delegation not_ds)
    inside within no_end (inr none) same (inr not_ds) = inr (refuted within no_end (λ other delegation. none delegation) (λ is_ds. absurd (not_ds is_ds)))

pub has_answer : (zone : Zone) (name : Labels) (t : ℕ) → IsWellFormed zone → HasAnswer zone name t
has_answer zone name t well =
    ⊎_elim (λ (there : IsElsewhere zone name t). record { answer = Elsewhere; is_lookup = there })
    (λ (here : ¬ IsElsewhere zone name t).
    ⊎_elim (λ (within : IsAtOrBelow name zone.apex). answer_here zone name t well within here)
    (λ (out : ¬ IsAtOrBelow name zone.apex). absurd (here (outside out)))
    (at_or_below_or_not name zone.apex))
    (elsewhere_or_here zone name t)
