-- What the types at a name say of it. The types are a fact about each type's number: that it is there.
use Rattle.std.specs.Prelude.{◌≡◌, ◌≢◌, ◌⊎◌, ℕ}
use Rattle.dnsv_zones.specs.zones.TypeNumbers.{ns, cname, soa, dname, ds}

-- a delegation: NS, and no SOA, which is at the top of a zone alone (RFC 1034 4.2.1, RFC 4035 2.3)
pub record IsDelegation (has : ℕ → Type 0) : Type 0 where
  pub servers : has ns
  pub no_apex : ¬ has soa

-- nothing of the zone is below a delegation (RFC 1034 4.2.1) or a DNAME (RFC 6672 2.4)
abbrev pub IsClosed : (ℕ → Type 0) → Type 0
IsClosed has = IsDelegation has ⊎ has dname

-- a delegation to a zone that isn't signed from here: NS, and no DS (RFC 4035 2.4, RFC 6840 4.4)
pub record IsUnsignedDelegation (has : ℕ → Type 0) : Type 0 where
  pub delegation : IsDelegation has
  pub no_ds : ¬ has ds

-- Which side of a delegation may speak of a type: the child of all but DS, and the parent of DS (RFC 4035 3.1.4.1,
-- RFC 6840 4.1).
abbrev pub MaySpeakOf : (ℕ → Type 0) → ℕ → Type 0
MaySpeakOf has t = (t ≡ ds → ¬ has soa) × (t ≢ ds → ¬ IsDelegation has)

-- neither the type nor CNAME is there, and this side may say so (RFC 4035 5.4, RFC 6840 4.3)
pub record Denies (has : ℕ → Type 0) (t : ℕ) : Type 0 where
  pub no_type : ¬ has t
  pub no_alias : ¬ has cname
  pub side : MaySpeakOf has t
