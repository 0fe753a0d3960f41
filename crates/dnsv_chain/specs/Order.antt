-- The order in which trust is worked out. No public clause cites this module.
use Rattle.std.specs.Prelude.{◌≡◌, ◌<◌, ◌⊎◌, ℕ, List, Contains, length, slice_index_or}
use Rattle.std.specs.List.Sorted.{IsSorted}
use Rattle.std.specs.Ordering.{nat_cmp, ordering_then}
use Rattle.std.specs.declared.cmp.Ordering.{Ordering}
use Rattle.dnsv_canonical.specs.Rrsets.{ReceivedRrset}
use Rattle.dnsv_chain.specs.declared.order.Step.{Step}

-- by the number of labels, by type, and by place
abbrev pub step_cmp : Step → Step → Ordering
step_cmp a b =
    ordering_then (nat_cmp a.labels b.labels) (ordering_then (nat_cmp a.rtype.0 b.rtype.0) (nat_cmp a.place b.place))

-- the step is for the RRset
pub record IsStepOf (rrsets : List ReceivedRrset) (step : Step) (rrset : ReceivedRrset) : Type 0 where
  pub below : step.place < length rrsets
  pub at : slice_index_or rrsets step.place rrset ≡ rrset
  pub labels : step.labels ≡ length rrset.owner
  pub rtype : step.rtype.0 ≡ rrset.rtype

-- a DS or DNSKEY RRset
abbrev pub IsInChain : ReceivedRrset → Type 0
IsInChain rrset = (rrset.rtype ≡ 43) ⊎ (rrset.rtype ≡ 48)

-- a step for each DS and DNSKEY RRset, by rising number of labels, and then DS before DNSKEY
pub record AreSteps (rrsets : List ReceivedRrset) (steps : List Step) : Type 0 where
  pub each : (step : Step) → Contains steps step
      → (rrset : ReceivedRrset) × IsStepOf rrsets step rrset × IsInChain rrset
  pub every : (rrset : ReceivedRrset) → Contains rrsets rrset → IsInChain rrset
      → (step : Step) × Contains steps step × IsStepOf rrsets step rrset
  pub rising : IsSorted step_cmp steps

-- the same of the first so many RRsets, in no order
pub record AreStepsTo (rrsets : List ReceivedRrset) (count : ℕ) (steps : List Step) : Type 0 where
  pub each : (step : Step) → Contains steps step
      → (rrset : ReceivedRrset) × IsStepOf rrsets step rrset × IsInChain rrset
  pub every : (place : ℕ) (rrset : ReceivedRrset) → place < count → place < length rrsets
      → slice_index_or rrsets place rrset ≡ rrset → IsInChain rrset
      → (step : Step) × Contains steps step × IsStepOf rrsets step rrset
