-- What a zone answers to a question (RFC 1034 4.3.2, RFC 4592 3.3.1).
use Rattle.std.specs.Prelude.{◌≡◌, ◌≢◌, ◌<◌, ◌≤◌, ℕ, length}
use Rattle.dnsv_names.specs.Name.{Labels, SameName, IsAtOrBelow, rightmost}
use Rattle.dnsv_names.specs.Order.{IsBelow}
use Rattle.dnsv_names.specs.Tree.{wildcard_of}
use Rattle.dnsv_zones.specs.zones.TypeNumbers.{cname, ds}
use Rattle.dnsv_zones.specs.zones.Types.{IsDelegation}
use Rattle.dnsv_zones.specs.zones.Zone.{Zone, Holds, IsNode, IsClosedAt}

-- The type or an alias is at a node, or the node has neither; the question's name has no node and no wildcard;
-- or another zone is to be asked.
pub data Answer : Type 0 where
  Held : Labels → Answer
  Alias : Labels → Answer
  NoData : Labels → Answer
  NoName : Answer
  Elsewhere : Answer

-- The zone isn't the one to ask: the name is outside of it or below its end, or at a delegation, whose DS alone is
-- the zone's, or it is the apex, whose DS is the parent's (RFC 1034 4.3.2, RFC 4035 3.1.4.1).
pub data IsElsewhere (zone : Zone) (name : Labels) (t : ℕ) : Type 0 where
  outside : ¬ IsAtOrBelow name zone.apex → IsElsewhere zone name t
  below_end : (cut : Labels) → IsBelow name cut → IsClosedAt zone cut → IsElsewhere zone name t
  at_delegation : IsDelegation (Holds zone name) → t ≢ ds → IsElsewhere zone name t
  at_apex : SameName name zone.apex → t ≡ ds → IsElsewhere zone name t

-- The closest encloser of a name that doesn't exist has so many labels: they are a node, and no more of the name's
-- labels are one (RFC 4592 3.3.1).
pub record IsClosestEncloser (zone : Zone) (name : Labels) (labels : ℕ) : Type 0 where
  pub proper : labels < length name
  pub node : IsNode zone (rightmost name labels)
  pub closest : (more : ℕ) → labels < more → more ≤ length name → ¬ IsNode zone (rightmost name more)

-- where the answer comes from: the name itself, or the wildcard at its closest encloser (RFC 4592 3.3.1)
pub data IsSource (zone : Zone) (name : Labels) : Labels → Type 0 where
  itself : IsNode zone name → IsSource zone name name
  wildcard : (labels : ℕ) → IsClosestEncloser zone name labels → IsNode zone (wildcard_of (rightmost name labels))
      → IsSource zone name (wildcard_of (rightmost name labels))

-- the name has no node, nor has the wildcard at its closest encloser
pub record HasNoSource (zone : Zone) (name : Labels) : Type 0 where
  pub labels : ℕ
  pub encloser : IsClosestEncloser zone name labels
  pub no_wildcard : ¬ IsNode zone (wildcard_of (rightmost name labels))

-- what is there at the source
abbrev pub IsAnswer : Zone → Labels → ℕ → Answer → Type 0
IsAnswer zone name t (Held source) = IsSource zone name source × Holds zone source t
IsAnswer zone name t (Alias source) = IsSource zone name source × ¬ Holds zone source t × Holds zone source cname
IsAnswer zone name t (NoData source) = IsSource zone name source × ¬ Holds zone source t × ¬ Holds zone source cname
IsAnswer zone name t NoName = HasNoSource zone name
IsAnswer zone name t Elsewhere = ⊥

-- the zone's answer to the question of a name and a type
abbrev pub IsLookup : Zone → Labels → ℕ → Answer → Type 0
IsLookup zone name t Elsewhere = IsElsewhere zone name t
IsLookup zone name t answer = (¬ IsElsewhere zone name t) × IsAnswer zone name t answer
