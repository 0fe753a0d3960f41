-- The chain of NSEC3 records that a signed zone has (RFC 5155 7.1), for one set of parameters.
use Rattle.std.specs.Prelude.{◌≡◌, ◌⊎◌, ◌≤◌, ℕ, Bool, List, map}
use Rattle.std.specs.List.{AllByRecursion}
use Rattle.dnsv_names.specs.Name.{Labels, SameName, IsAtOrBelow}
use Rattle.dnsv_names.specs.Order.{IsBelow, label_cmp}
use Rattle.dnsv_names.specs.Tree.{wildcard_of}
use Rattle.dnsv_names.specs.Circle.{Gap, IsSuccessor}
use Rattle.dnsv_zones.specs.Any.{Any}
use Rattle.dnsv_zones.specs.zones.Types.{IsUnsignedDelegation}
use Rattle.dnsv_zones.specs.zones.Zone.{Zone, IsOwner, Holds, IsNode, IsWellFormed, HasNoWildcardDelegation}
use Rattle.dnsv_zones.specs.chains.NsecChain.{IsBitmapOf}

-- what a hash is made with besides the name (RFC 5155 3.1.3, 3.1.5)
pub record Parameters : Type 0 where
  pub iterations : ℕ
  pub salt : List ℕ

-- An NSEC3 record: the hash that its owner spells, the next hash, the flags, a test of the types in its bitmap, and
-- the parameters (RFC 5155 3.1).
pub record Nsec3Record : Type 0 where
  pub hash : List ℕ
  pub next : List ℕ
  pub flags : ℕ
  pub types : ℕ → Bool
  pub parameters : Parameters

-- A hash of names with some parameters, whatever the names' case. It stands for that of RFC 5155 5, and the laws hold
-- of any.
pub record NameHash : Type 0 where
  pub parameters : Parameters
  pub of : Labels → List ℕ
  pub respects_case : (a b : Labels) → SameName a b → of a ≡ of b

-- A name that a chain with Opt-Out may leave out: a delegation without DS, or an empty non-terminal that exists
-- through such delegations alone (RFC 5155 6, 7.1).
pub data IsUnsignedEnd (zone : Zone) (name : Labels) : Type 0 where
  delegation : IsUnsignedDelegation (Holds zone name) → IsUnsignedEnd zone name
  non_terminal : ¬ IsOwner zone name
      → ((owner : Labels) → IsOwner zone owner → IsBelow owner name → IsUnsignedDelegation (Holds zone owner))
      → IsUnsignedEnd zone name

-- the name is among those of the chain
pub record IsChained (names : List Labels) (name : Labels) : Type 0 where
  pub entry : Any (λ each. SameName each name) names

-- The names of a chain: nodes of the zone, and all of them but for unsigned ends (RFC 5155 7.1).
pub record AreChainNames (zone : Zone) (names : List Labels) : Type 0 where
  pub nodes : (name : Labels) → IsChained names name → IsNode zone name
  pub all : (name : Labels) → IsNode zone name → IsChained names name ⊎ IsUnsignedEnd zone name

-- The record is one of the chain of these names: it has the hash of one of them and its types, and the next hash as
-- unsigned octets. Without the Opt-Out flag no node of the zone has its hash in the gap (RFC 5155 6, 7.1).
pub record IsInNsec3Chain (zone : Zone) (hash : NameHash) (names : List Labels) (nsec3 : Nsec3Record) : Type 0 where
  pub same_parameters : nsec3.parameters ≡ hash.parameters
  pub name : Labels
  pub is_chained : IsChained names name
  pub is_hash : nsec3.hash ≡ hash.of name
  pub next : IsSuccessor label_cmp (map hash.of names) nsec3.hash nsec3.next
  pub types : IsBitmapOf zone name nsec3.types
  pub flags : nsec3.flags ≤ 1
  pub without_opt_out : nsec3.flags ≡ 0 → (node : Labels) → IsNode zone node
      → ¬ Gap label_cmp nsec3.hash nsec3.next (hash.of node)

-- The zone has this name, and the records are of one chain of it with these parameters.
pub record HasNsec3Records (zone : Zone) (apex : Labels) (hash : NameHash) (records : List Nsec3Record)
    : Type 0 where
  pub well_formed : IsWellFormed zone
  pub same_apex : SameName apex zone.apex
  pub names : List Labels
  pub chain_names : AreChainNames zone names
  pub in_chain : AllByRecursion (IsInNsec3Chain zone hash names) records

-- The records are one whole chain of the zone, which has no delegation at a wildcard.
pub record IsNsec3ChainOf (zone : Zone) (apex : Labels) (hash : NameHash) (records : List Nsec3Record) : Type 0 where
  pub has_records : HasNsec3Records zone apex hash records
  pub each_name : (name : Labels) → IsChained has_records.names name
      → Any (λ nsec3. nsec3.hash ≡ hash.of name) records
  pub wildcards : HasNoWildcardDelegation zone

-- Names whose hashes a proof asks for: the question's name, its ancestors, and the wildcards right below its proper ancestors.
pub data IsAsked (name : Labels) : Labels → Type 0 where
  itself : (above : Labels) → IsAtOrBelow name above → IsAsked name above
  wildcard : (above : Labels) → IsBelow name above → IsAsked name (wildcard_of above)

-- no node of the zone has the hash of one of these names and is another name
abbrev pub HasNoCollision : Zone → NameHash → Labels → Type 0
HasNoCollision zone hash name =
    (asked node : Labels) → IsAsked name asked → IsNode zone node → hash.of node ≡ hash.of asked → SameName node asked
