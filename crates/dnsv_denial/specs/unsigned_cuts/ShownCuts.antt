-- Which cuts the chains of kept zones show. No public clause cites this module.
use Rattle.std.specs.Prelude.{◌≡◌, ◌<◌, ℕ, List, Some, slice_get}
use Rattle.dnsv_names.specs.Name.{Labels}
use Rattle.dnsv_zones.specs.forms.Parts.{OptsOutNextCloser, OptsOut}
use Rattle.dnsv_canonical.specs.Rrsets.{ReceivedRrset}
use Rattle.dnsv_proof_forms.specs.forms.Denials.{IsDelegationAt}
use Rattle.dnsv_denial.specs.unsigned_cuts.Findings.{IsFewestFound, IsGreater, IsLesser, IsMostFound}
use Rattle.dnsv_denial.specs.gathering.EvidenceWords.{Chain, evidence_said}
use Rattle.dnsv_denial.specs.declared.unsigned_cuts.shown_cuts.ShownCuts.{ShownCuts}

-- ---- of a chain of a zone

-- the zone's chain shows the name's so many rightmost labels to be a delegation without DS
abbrev pub IsCutOf : (ℕ → ℕ → Type 0) → List ReceivedRrset → Labels → Labels → Chain → ℕ → Type 0
IsCutOf Secured rrsets name zone chain labels =
    IsDelegationAt (evidence_said Secured rrsets zone chain) zone name labels

-- the zone's chain may leave out an unsigned delegation, for the closest encloser of so many labels
abbrev pub IsOptOutOf : (ℕ → ℕ → Type 0) → List ReceivedRrset → Labels → Labels → Chain → ℕ → Type 0
IsOptOutOf Secured rrsets name zone chain labels =
    OptsOut (evidence_said Secured rrsets zone chain) zone name labels

-- ---- of a zone

-- a chain of the zone shows the name's so many rightmost labels to be a delegation without DS
pub record IsCutIn
    (Secured : ℕ → ℕ → Type 0) (rrsets : List ReceivedRrset) (name zone : Labels) (labels : ℕ) : Type 0 where
  pub chain : Chain
  pub cut : IsCutOf Secured rrsets name zone chain labels

-- a chain of the zone may leave out an unsigned delegation, for the closest encloser of so many labels
pub record IsOptOutIn
    (Secured : ℕ → ℕ → Type 0) (rrsets : List ReceivedRrset) (name zone : Labels) (labels : ℕ) : Type 0 where
  pub chain : Chain
  pub out : IsOptOutOf Secured rrsets name zone chain labels

-- ---- what is found

-- it is so of the number by one of the first members of the list
pub record IsOfFirst {X : Type 0} (xs : List X) (Holds : X → ℕ → Type 0) (count labels : ℕ) : Type 0 where
  pub place : ℕ
  pub member : X
  pub early : place < count
  pub there : slice_get xs place ≡ Some member
  pub holds : Holds member labels

-- the fewest labels of the cuts, and the most of the closest enclosers with Opt-Out
pub record AreShown (Cut OptOut : ℕ → Type 0) (found : ShownCuts) : Type 0 where
  pub fewest : IsFewestFound Cut found.no_ds
  pub most : IsMostFound OptOut found.opt_out

-- what the two found, as one
pub record AreBoth (one other both : ShownCuts) : Type 0 where
  pub lesser : IsLesser one.no_ds other.no_ds both.no_ds
  pub greater : IsGreater one.opt_out other.opt_out both.opt_out

-- ---- an answer from a wildcard

-- the zone's chain leaves open that an unsigned delegation stands against an answer from the wildcard
abbrev pub OptsOutNextCloserOf : (ℕ → ℕ → Type 0) → List ReceivedRrset → Labels → ℕ → Labels → Chain → Type 0
OptsOutNextCloserOf Secured rrsets name labels zone chain =
    OptsOutNextCloser (evidence_said Secured rrsets zone chain) zone name labels
