-- What a bitmap says of a name's types, and what may be denied.
use Rattle.std.proofs.Common.{◌≡◌, ◌≢◌, ℕ, ◌⊎◌, Bool, sym, inl, inr, ⊎_elim, arith}
use Rattle.dnsv_names.specs.Name.{Labels, SameName, IsAtOrBelow}
use Rattle.dnsv_names.specs.Tree.{wildcard_of}
use Rattle.dnsv_names.specs.Tree.TreeLaws.{below_trans_at}
use Rattle.dnsv_names.specs.Tree.AncestorLaws.{wildcard_below}
use Rattle.dnsv_zones.specs.zones.TypeNumbers.{ns, cname, soa, dname, ds, rrsig, nsec}
use Rattle.dnsv_zones.specs.zones.Types.{IsDelegation, IsClosed, Denies}
use Rattle.dnsv_zones.specs.zones.Zone.{Zone, Holds, IsClosedAt, IsWellFormed, HasNoWildcardDelegation}
use Rattle.dnsv_zones.specs.zones.Lookup.{IsElsewhere}
use Rattle.dnsv_zones.specs.zones.Lookup.IsElsewhere.{at_delegation, at_apex}
use Rattle.dnsv_zones.specs.chains.NsecChain.{IsInBitmap, IsBitmapOf}
use Rattle.dnsv_zones.proofs.lemmas.zones.ZoneLemmas.{holds_respects}

pub plain_type : (zone : Zone) (name : Labels) (types : ℕ → Bool) (t : ℕ) → t ≢ rrsig → t ≢ nsec → IsBitmapOf zone name types → IsInBitmap types t → Holds zone name t
plain_type zone name types t other another bitmap bit =
    ⊎_elim (λ (holds : Holds zone name t). holds)
    (λ (of_chain : (t ≡ rrsig) ⊎ (t ≡ nsec)). absurd (⊎_elim (λ (is : t ≡ rrsig). other is) (λ (is : t ≡ nsec). another is) of_chain))
    (bitmap.no_more t bit)

pub delegation_bits : (zone : Zone) (name : Labels) (types : ℕ → Bool) → IsBitmapOf zone name types → IsDelegation (Holds zone name) → IsDelegation (IsInBitmap types)
delegation_bits zone name types bitmap delegation = record {
  servers = bitmap.all ns delegation.servers;
  no_apex = λ bit. delegation.no_apex (plain_type zone name types soa (λ is. omega arith) (λ is. omega arith) bitmap bit);
}

pub closed_bits : (zone : Zone) (name : Labels) (types : ℕ → Bool) → IsBitmapOf zone name types → IsClosedAt zone name → IsClosed (IsInBitmap types)
closed_bits zone name types bitmap closed =
    ⊎_elim (λ (delegation : IsDelegation (Holds zone name)). inl (delegation_bits zone name types bitmap delegation))
    (λ (alias : Holds zone name dname). inr (bitmap.all dname alias)) closed

-- what a bitmap says of the zone, the other way round
pub bits_delegation : (zone : Zone) (name : Labels) (types : ℕ → Bool) → IsBitmapOf zone name types → IsDelegation (IsInBitmap types) → IsDelegation (Holds zone name)
bits_delegation zone name types bitmap delegation = record {
  servers = plain_type zone name types ns (λ is. omega arith) (λ is. omega arith) bitmap delegation.servers;
  no_apex = λ holds. delegation.no_apex (bitmap.all soa holds);
}

pub bits_closed : (zone : Zone) (name : Labels) (types : ℕ → Bool) → IsBitmapOf zone name types → IsClosed (IsInBitmap types) → IsClosedAt zone name
bits_closed zone name types bitmap closed =
    ⊎_elim (λ (delegation : IsDelegation (IsInBitmap types)). inl (bits_delegation zone name types bitmap delegation))
    (λ (alias : IsInBitmap types dname). inr (plain_type zone name types dname (λ is. omega arith) (λ is. omega arith) bitmap alias)) closed

-- the bitmap of a name is that of an equal one
pub bitmap_respects : (zone : Zone) (a b : Labels) (types : ℕ → Bool) → SameName a b → IsBitmapOf zone a types → IsBitmapOf zone b types
bitmap_respects zone a b types same bitmap = record {
  all = λ t holds. bitmap.all t (holds_respects zone b a t (sym same) holds);
  no_more = λ t bit. ⊎_elim (λ (holds : Holds zone a t). inl (holds_respects zone a b t same holds)) (λ of_chain. inr of_chain) (bitmap.no_more t bit);
}

-- a name with its types denied, by the zone
pub record MayDeny (zone : Zone) (name : Labels) (t : ℕ) : Type 0 where
  pub no_type : ¬ Holds zone name t
  pub no_alias : ¬ Holds zone name cname
  pub no_cut : t ≢ ds → ¬ IsDelegation (Holds zone name)
  pub no_apex : t ≡ ds → ¬ Holds zone name soa

pub denies_bits : (zone : Zone) (name : Labels) (types : ℕ → Bool) (t : ℕ) → t ≢ rrsig → t ≢ nsec → IsBitmapOf zone name types → MayDeny zone name t → Denies (IsInBitmap types) t
denies_bits zone name types t other another bitmap may = record {
  no_type = λ bit. may.no_type (plain_type zone name types t other another bitmap bit);
  no_alias = λ bit. may.no_alias (plain_type zone name types cname (λ is. omega arith) (λ is. omega arith) bitmap bit);
  side = (
    λ is_ds bit. may.no_apex is_ds (plain_type zone name types soa (λ is. omega arith) (λ is. omega arith) bitmap bit),
    λ not_ds delegation. may.no_cut not_ds (bits_delegation zone name types bitmap delegation),
  );
}

-- of a node that lookup answers at, and of a wildcard, all of it may be said
pub may_deny_here : (zone : Zone) (name : Labels) (t : ℕ) → IsWellFormed zone → ¬ IsElsewhere zone name t → ¬ Holds zone name t → ¬ Holds zone name cname → MayDeny zone name t
may_deny_here zone name t well here no_type no_alias = record {
  no_type = no_type;
  no_alias = no_alias;
  no_cut = λ not_ds delegation. here (at_delegation delegation not_ds);
  no_apex = λ is_ds holds. here (at_apex (well.no_other_apex name holds) is_ds);
}

pub may_deny_wildcard : (zone : Zone) (parent : Labels) (t : ℕ) → IsWellFormed zone → HasNoWildcardDelegation zone → IsAtOrBelow parent zone.apex → ¬ Holds zone (wildcard_of parent) t → ¬ Holds zone (wildcard_of parent) cname → MayDeny zone (wildcard_of parent) t
may_deny_wildcard zone parent t well wildcards within no_type no_alias = record {
  no_type = no_type;
  no_alias = no_alias;
  no_cut = λ not_ds delegation. wildcards parent delegation;
  no_apex = λ is_ds holds. (below_trans_at (wildcard_of parent) parent zone.apex (wildcard_below parent) within).1 (well.no_other_apex (wildcard_of parent) holds);
}
