-- What the verdict is where nothing answers and the evidence has the whole chain of a zone.
use Rattle.std.specs.Prelude.{◌⊎◌, ◌↔◌, ℕ}
use Rattle.dnsv_names.specs.Name.{Labels, IsAtOrBelow}
use Rattle.dnsv_zones.specs.zones.Lookup.{IsLookup}
use Rattle.dnsv_zones.specs.zones.Lookup.Answer.{NoData, NoName}
use Rattle.dnsv_zones.specs.zones.TypeNumbers.{cname}
use Rattle.dnsv_zones.specs.zones.Types.{IsUnsignedDelegation}
use Rattle.dnsv_zones.specs.zones.Zone.{Zone, Holds}
use Rattle.dnsv_chain.specs.Trusted.{IsSecured}
use Rattle.dnsv_denial.specs.proving.WholeChain.{HasWholeChain, HasWholeChainWithoutOptOut, HasWholeNsec3Chain, IsJustChainWithoutOptOut, IsJustNsec3Chain}
use Rattle.dnsv_verdict.specs.Settled.{HasAnswer}
use Rattle.dnsv_chain.specs.Basis.{Basis}
use Rattle.dnsv_verdict.specs.declared.verdict.Verdict.{Verdict}
use Rattle.dnsv_verdict.specs.declared.verdict.Verdict.TheVariants.{SecureNoName, SecureNoData, Insecure}

-- ---- what a verdict says

abbrev pub SaysNoName : Verdict → Type 0
SaysNoName (SecureNoName proof) = Unit {0}
SaysNoName verdict = ⊥

abbrev pub SaysNoData : Verdict → Type 0
SaysNoData (SecureNoData proof) = Unit {0}
SaysNoData verdict = ⊥

abbrev pub SaysInsecure : Verdict → Type 0
SaysInsecure (Insecure cut) = Unit {0}
SaysInsecure verdict = ⊥

abbrev pub SaysDenialOrInsecure : Verdict → Type 0
SaysDenialOrInsecure verdict = SaysNoName verdict ⊎ SaysNoData verdict ⊎ SaysInsecure verdict

-- each denial is told exactly where looking the name up in the zone gives it
pub record IsDenied (zone : Zone) (name : Labels) (t : ℕ) (verdict : Verdict) : Type 0 where
  pub no_name : SaysNoName verdict ↔ IsLookup zone name t NoName
  pub no_data : SaysNoData verdict ↔ ((source : Labels) × IsLookup zone name t (NoData source))

-- where the zone gives a denial it is told, or that the name may be unsigned
pub record IsDeniedOrUnsigned (zone : Zone) (name : Labels) (t : ℕ) (verdict : Verdict) : Type 0 where
  pub no_name : IsLookup zone name t NoName → SaysNoName verdict ⊎ SaysInsecure verdict
  pub no_data : (source : Labels) → IsLookup zone name t (NoData source) → SaysNoData verdict ⊎ SaysInsecure verdict

-- Where the zone gives a denial one is told. Of no data it may be that there is no such name, by records of another
-- zone.
pub record IsDeniedSomehow (zone : Zone) (name : Labels) (t : ℕ) (verdict : Verdict) : Type 0 where
  pub no_name : IsLookup zone name t NoName → SaysNoName verdict
  pub no_data : (source : Labels) → IsLookup zone name t (NoData source) → SaysNoName verdict ⊎ SaysNoData verdict

-- ---- the evidence

-- signature s of RRset k is good under a trusted key of its signer
abbrev pub SecuredBy : Basis → ℕ → ℕ → Type 0
SecuredBy basis = IsSecured basis.meaning basis.moment basis.rrsets basis.anchors

-- no RRset of the name with the type or CNAME is a secure answer
abbrev pub HasNoAnswer : Basis → Labels → ℕ → Type 0
HasNoAnswer basis name t =
    (¬ HasAnswer (SecuredBy basis) basis.rrsets name t) × (¬ HasAnswer (SecuredBy basis) basis.rrsets name cname)

-- The verdict tells what the zone of a whole chain denies: exactly that, where there is just this chain and it has no
-- Opt-Out; that or Insecure, where there is just this chain and it may have Opt-Out; and no less, where there is such a
-- chain without Opt-Out, whatever else there is. Whatever else there is, it tells a denial or Insecure where a whole
-- chain has a delegation without DS at or above the name, and where the zone of a whole NSEC3 chain, with Opt-Out or
-- without, denies something.
pub record TellsWholeChains (basis : Basis) (name : Labels) (t : ℕ) (verdict : Verdict) : Type 0 where
  pub without_opt_out : (zone : Zone) → HasNoAnswer basis name t → IsJustChainWithoutOptOut (SecuredBy basis)
      basis.rrsets name zone
      → IsDenied zone name t verdict
  pub opt_out : (zone : Zone) → HasNoAnswer basis name t → IsJustNsec3Chain (SecuredBy basis) basis.rrsets name zone
      → IsDeniedOrUnsigned zone name t verdict
  pub whole : (zone : Zone) → HasNoAnswer basis name t → HasWholeChainWithoutOptOut (SecuredBy basis) basis.rrsets name
      zone
      → IsDeniedSomehow zone name t verdict
  pub delegation : (zone : Zone) (cut : Labels) → HasNoAnswer basis name t → HasWholeChain (SecuredBy basis) basis.rrsets
      name zone
      → IsAtOrBelow name cut → IsUnsignedDelegation (Holds zone cut) → SaysDenialOrInsecure verdict
  pub missing_name : (zone : Zone) → HasNoAnswer basis name t → HasWholeNsec3Chain (SecuredBy basis) basis.rrsets name
      zone
      → IsLookup zone name t NoName → SaysDenialOrInsecure verdict
  pub missing_type : (zone : Zone) (source : Labels) → HasNoAnswer basis name t → HasWholeNsec3Chain (SecuredBy basis)
      basis.rrsets name zone
      → IsLookup zone name t (NoData source) → SaysDenialOrInsecure verdict
