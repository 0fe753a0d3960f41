-- What a zone is, without a word of its records' signatures or chains (RFC 1034 4.2).
use Rattle.std.specs.Prelude.{ℕ, Bool, List, IsTrue}
use Rattle.dnsv_names.specs.Name.{Labels, SameName, IsAtOrBelow}
use Rattle.dnsv_names.specs.Order.{IsBelow}
use Rattle.dnsv_names.specs.Tree.{wildcard_of}
use Rattle.dnsv_zones.specs.zones.TypeNumbers.{soa}
use Rattle.dnsv_zones.specs.Any.{Any}
use Rattle.dnsv_zones.specs.zones.Types.{IsClosed, IsDelegation}

-- an owner and a test of its types. An owner without types is an owner.
pub record Entry : Type 0 where
  pub owner : Labels
  pub types : ℕ → Bool

-- A zone's name and what it is the authority for, without glue. Of entries with one owner each adds its types.
pub record Zone : Type 0 where
  pub apex : Labels
  pub entries : List Entry

pub record IsOwner (zone : Zone) (name : Labels) : Type 0 where
  pub entry : Any (λ each. SameName each.owner name) zone.entries

-- the zone has the type at the name
pub record Holds (zone : Zone) (name : Labels) (t : ℕ) : Type 0 where
  pub entry : Any (λ each. SameName each.owner name × IsTrue (each.types t)) zone.entries

-- A name that exists: an owner is at or below it, so an empty non-terminal is one (RFC 4592 2.2.2, RFC 8020 2).
pub record IsNode (zone : Zone) (name : Labels) : Type 0 where
  pub within : IsAtOrBelow name zone.apex
  pub entry : Any (λ each. IsAtOrBelow each.owner name) zone.entries

-- the name has a delegation or a DNAME, and so the zone ends there
abbrev pub IsClosedAt : Zone → Labels → Type 0
IsClosedAt zone name = IsClosed (Holds zone name)

-- What a zone has to be: its apex has the one SOA (RFC 1035 5.2), nothing is outside of it, and nothing below
-- a delegation or a DNAME (RFC 6672 2.4).
pub record IsWellFormed (zone : Zone) : Type 0 where
  pub apex : Holds zone zone.apex soa
  pub no_other_apex : (name : Labels) → Holds zone name soa → SameName name zone.apex
  pub within : (name : Labels) → IsOwner zone name → IsAtOrBelow name zone.apex
  pub ends : (cut name : Labels) → IsClosedAt zone cut → IsOwner zone name → ¬ IsBelow name cut

-- No wildcard is a delegation, of which RFC 4592 4.2 warns: its record says nothing of types but DS, so that not each
-- missing type has a proof.
abbrev pub HasNoWildcardDelegation : Zone → Type 0
HasNoWildcardDelegation zone = (parent : Labels) → ¬ IsDelegation (Holds zone (wildcard_of parent))
