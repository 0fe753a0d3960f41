-- What a zone answers, from where the name stands in it.
use Rattle.std.proofs.Common.{◌≡◌, ◌≢◌, ℕ, ◌<◌, ◌⊎◌, refl, sym, ap, ⊎_elim, arith, subst}
use Rattle.dnsv_names.specs.Name.{Labels, rightmost, IsAtOrBelow}
use Rattle.dnsv_names.specs.Order.{IsBelow}
use Rattle.dnsv_names.specs.Tree.{wildcard_of, asterisk}
use Rattle.dnsv_names.specs.Tree.TreeLaws.{at_or_below_trans, below_trans_at, at_trans_below}
use Rattle.dnsv_zones.specs.zones.TypeNumbers.{ns, cname, soa, ds}
use Rattle.dnsv_zones.specs.zones.Types.{IsDelegation}
use Rattle.dnsv_zones.specs.zones.Zone.{Zone, Holds, IsNode, IsClosedAt, IsWellFormed}
use Rattle.dnsv_zones.specs.zones.Lookup.{Answer, IsElsewhere, IsClosestEncloser, IsSource, HasNoSource, IsLookup}
use Rattle.dnsv_zones.specs.zones.Lookup.Answer.{Held, Alias, NoData, NoName, Elsewhere}
use Rattle.dnsv_zones.specs.zones.Lookup.IsElsewhere.{outside, below_end, at_delegation, at_apex}
use Rattle.dnsv_zones.specs.zones.Lookup.IsSource.{itself, wildcard}
use Rattle.dnsv_names.specs.Tree.AncestorLaws.{rightmost_above, parent_at_or_below}
use Rattle.dnsv_zones.proofs.lemmas.zones.ZoneLemmas.{holds_owner, holds_respects, owner_node, apex_node, node_respects, node_not_below, name_no_node}

-- The name is no node, its closest encloser has so many labels, and the zone doesn't end above it.
pub record IsMissing (zone : Zone) (name : Labels) (labels : ℕ) : Type 0 where
  pub encloser : IsClosestEncloser zone name labels
  pub open_above : (cut : Labels) → IsBelow name cut → ¬ IsClosedAt zone cut

-- the zone is the one to ask for a name that is missing
pub missing_here : (zone : Zone) (name : Labels) (labels t : ℕ) → IsWellFormed zone → IsMissing zone name labels → ¬ IsElsewhere zone name t
missing_here zone name labels t well missing (outside out) =
    out (at_or_below_trans name (rightmost name labels) zone.apex (rightmost_above name labels) missing.encloser.node.within)
missing_here zone name labels t well missing (below_end cut below closed) = missing.open_above cut below closed
missing_here zone name labels t well missing (at_delegation delegation other) =
    name_no_node zone name labels missing.encloser (owner_node zone name well (holds_owner zone name ns delegation.servers))
missing_here zone name labels t well missing (at_apex same is_ds) =
    name_no_node zone name labels missing.encloser (node_respects zone zone.apex name (sym same) (apex_node zone well))

-- and for a node, if its side of a cut is asked
pub node_here : (zone : Zone) (name : Labels) (t : ℕ) → IsWellFormed zone → IsNode zone name → (t ≢ ds → ¬ IsDelegation (Holds zone name)) → (t ≡ ds → ¬ Holds zone name soa) → ¬ IsElsewhere zone name t
node_here zone name t well node no_cut no_apex (outside out) = out node.within
node_here zone name t well node no_cut no_apex (below_end cut below closed) = node_not_below zone cut name well closed node below
node_here zone name t well node no_cut no_apex (at_delegation delegation other) = no_cut other delegation
node_here zone name t well node no_cut no_apex (at_apex same is_ds) = no_apex is_ds (holds_respects zone zone.apex name soa (sym same) well.apex)

-- a missing name whose wildcard is no node has no answer
pub missing_no_name : (zone : Zone) (name : Labels) (labels t : ℕ) → IsWellFormed zone → IsMissing zone name labels → ¬ IsNode zone (wildcard_of (rightmost name labels)) → IsLookup zone name t NoName
missing_no_name zone name labels t well missing none = (
  missing_here zone name labels t well missing,
  record { labels = labels; encloser = missing.encloser; no_wildcard = none },
)

-- one whose wildcard is a node gets what is there
pub missing_no_data : (zone : Zone) (name : Labels) (labels t : ℕ) → IsWellFormed zone → IsMissing zone name labels → IsNode zone (wildcard_of (rightmost name labels)) → ¬ Holds zone (wildcard_of (rightmost name labels)) t → ¬ Holds zone (wildcard_of (rightmost name labels)) cname → IsLookup zone name t (NoData (wildcard_of (rightmost name labels)))
missing_no_data zone name labels t well missing node no_type no_alias = (
  missing_here zone name labels t well missing,
  (wildcard labels missing.encloser node, no_type, no_alias),
)

pub missing_held : (zone : Zone) (name : Labels) (labels t : ℕ) → IsWellFormed zone → IsMissing zone name labels → Holds zone (wildcard_of (rightmost name labels)) t → IsLookup zone name t (Held (wildcard_of (rightmost name labels)))
missing_held zone name labels t well missing holds =
    let star = wildcard_of (rightmost name labels) in (
      missing_here zone name labels t well missing,
      (wildcard labels missing.encloser (owner_node zone star well (holds_owner zone star t holds)), holds),
    )

-- where lookup isn't elsewhere nothing above the name, its ancestors and their wildcards is closed
pub open_above_here : (zone : Zone) (name : Labels) (t : ℕ) → ¬ IsElsewhere zone name t → (above cut : Labels) → IsAtOrBelow name above → IsBelow above cut → ¬ IsClosedAt zone cut
open_above_here zone name t here above cut under below closed = here (below_end cut (at_trans_below name above cut under below) closed)

pub open_above_wildcard : (zone : Zone) (name : Labels) (t : ℕ) → ¬ IsElsewhere zone name t → (parent cut : Labels) → IsBelow name parent → IsBelow (wildcard_of parent) cut → ¬ IsClosedAt zone cut
open_above_wildcard zone name t here parent cut under below closed =
    here (below_end cut (below_trans_at name parent cut under (parent_at_or_below asterisk parent cut below)) closed)

-- ---- one answer

-- two closest enclosers of a name have as many labels
pub one_encloser : (zone : Zone) (name : Labels) (m n : ℕ) → IsClosestEncloser zone name m → IsClosestEncloser zone name n → m ≡ n
one_encloser zone name m n p q =
    let cases : (m ≡ n) ⊎ ((m < n) ⊎ (n < m)) = grind arith in
    ⊎_elim (λ (same : m ≡ n). same)
    (λ (differ : (m < n) ⊎ (n < m)). ⊎_elim (λ (less : m < n). absurd (p.closest n less (omega (arith, q.proper)) q.node))
    (λ (more : n < m). absurd (q.closest m more (omega (arith, p.proper)) p.node)) differ)
    cases

one_source : (zone : Zone) (name a b : Labels) → IsSource zone name a → IsSource zone name b → a ≡ b
one_source zone name a b (itself node) (itself other) = refl
one_source zone name a b (itself node) (wildcard labels encloser star) = absurd (name_no_node zone name labels encloser node)
one_source zone name a b (wildcard labels encloser star) (itself node) = absurd (name_no_node zone name labels encloser node)
one_source zone name a b (wildcard m p star) (wildcard n q other) =
    ap (λ labels. wildcard_of (rightmost name labels)) (one_encloser zone name m n p q)

no_source : (zone : Zone) (name source : Labels) → HasNoSource zone name → ¬ IsSource zone name source
no_source zone name source none (itself node) = name_no_node zone name none.labels none.encloser node
no_source zone name source none (wildcard labels encloser star) =
    none.no_wildcard (subst (λ (n : ℕ). IsNode zone (wildcard_of (rightmost name n))) (one_encloser zone name labels none.labels encloser none.encloser) star)

along : (zone : Zone) (a b : Labels) (t : ℕ) → a ≡ b → Holds zone a t → Holds zone b t
along zone a b t same holds = subst (λ (name : Labels). Holds zone name t) same holds

-- no two answers of a lookup differ
pub one_answer : (zone : Zone) (name : Labels) (t : ℕ) (p q : Answer) → IsLookup zone name t p → IsLookup zone name t q → p ≡ q
one_answer zone name t Elsewhere Elsewhere h k = refl
one_answer zone name t p Elsewhere h k = absurd (h.0 k)
one_answer zone name t Elsewhere q h k = absurd (k.0 h)
one_answer zone name t (Held a) (Held b) h k = ap Held (one_source zone name a b h.1.0 k.1.0)
one_answer zone name t (Held a) (Alias b) h k = absurd (k.1.1 (along zone a b t (one_source zone name a b h.1.0 k.1.0) h.1.1))
one_answer zone name t (Held a) (NoData b) h k = absurd (k.1.1 (along zone a b t (one_source zone name a b h.1.0 k.1.0) h.1.1))
one_answer zone name t (Held a) NoName h k = absurd (no_source zone name a k.1 h.1.0)
one_answer zone name t (Alias a) (Held b) h k = absurd (h.1.1 (along zone b a t (one_source zone name b a k.1.0 h.1.0) k.1.1))
one_answer zone name t (Alias a) (Alias b) h k = ap Alias (one_source zone name a b h.1.0 k.1.0)
one_answer zone name t (Alias a) (NoData b) h k = absurd (k.1.2 (along zone a b cname (one_source zone name a b h.1.0 k.1.0) h.1.2))
one_answer zone name t (Alias a) NoName h k = absurd (no_source zone name a k.1 h.1.0)
one_answer zone name t (NoData a) (Held b) h k = absurd (h.1.1 (along zone b a t (one_source zone name b a k.1.0 h.1.0) k.1.1))
one_answer zone name t (NoData a) (Alias b) h k = absurd (h.1.2 (along zone b a cname (one_source zone name b a k.1.0 h.1.0) k.1.2))
one_answer zone name t (NoData a) (NoData b) h k = ap NoData (one_source zone name a b h.1.0 k.1.0)
one_answer zone name t (NoData a) NoName h k = absurd (no_source zone name a k.1 h.1.0)
one_answer zone name t NoName (Held b) h k = absurd (no_source zone name b h.1 k.1.0)
one_answer zone name t NoName (Alias b) h k = absurd (no_source zone name b h.1 k.1.0)
one_answer zone name t NoName (NoData b) h k = absurd (no_source zone name b h.1 k.1.0)
one_answer zone name t NoName NoName h k = refl
