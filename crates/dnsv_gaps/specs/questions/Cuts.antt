-- Which names below a zone may be unsigned delegations, and what the records of its sources say of them (RFC 4035 5.2, RFC 5155
-- 8.9).
use Rattle.std.specs.Prelude.{⊤, ◌≡◌, ◌≢◌, ◌⊎◌, ◌↔◌, ◌+◌, ◌-◌, ◌<◌, ◌≤◌, ◌==◌, ℕ, if◌then◌else◌, IsTrue, List, Option, Some, None, Contains, length}
use Rattle.std.specs.List.{AllZip, enumerate_from, range_with_len}
use Rattle.dnsv_names.specs.Name.{Labels, SameName, rightmost}
use Rattle.dnsv_names.specs.Order.{IsBelow}
use Rattle.dnsv_names.specs.declared.number.RecordType.{RecordType}
use Rattle.dnsv_records.specs.declared.rrsig.Rrsig.{Rrsig}
use Rattle.dnsv_zones.specs.chains.Nsec3Chain.{Nsec3Record}
use Rattle.dnsv_zones.specs.forms.Parts.{IsFirstToSay}
use Rattle.dnsv_zones.specs.forms.RecordWords.{RecordWords}
use Rattle.dnsv_zones.specs.zones.TypeNumbers.{ds, ns, soa}
use Rattle.dnsv_zones.specs.zones.Types.{IsDelegation, IsUnsignedDelegation}
use Rattle.dnsv_canonical.specs.Rrsets.{ReceivedRrset}
use Rattle.dnsv_canonical.specs.declared.number.RecordNumber.{RecordNumber}
use Rattle.dnsv_denial.specs.gathering.EvidenceWords.{Chain}
use Rattle.dnsv_proof_forms.specs.records.Numbers.{number_cmp}
use Rattle.dnsv_denial.specs.gathering.EvidenceWords.Chain.{ByNsec, ByNsec3}
use Rattle.dnsv_chain.specs.Basis.{Basis, HasAnchor}
use Rattle.dnsv_verifier.specs.Admissible.{IsSignatureOf}
use Rattle.dnsv_faults.specs.KnownZones.{HasOwnAnchor, HasRrset, IsGoal, IsKnownZone}
use Rattle.dnsv_faults.specs.Rrsets.{AreRrsetFacts}
use Rattle.dnsv_remedies.specs.declared.facts.cut.CutCase.{CutCase}
use Rattle.dnsv_remedies.specs.declared.facts.cut.CutCase.TheVariants as case
use Rattle.dnsv_remedies.specs.declared.facts.cut.CutFacts.{CutFacts}
use Rattle.dnsv_remedies.specs.declared.facts.cut.CutSource.{CutSource}
use Rattle.dnsv_remedies.specs.declared.facts.cut.ParentFacts.{ParentFacts}
use Rattle.dnsv_gaps.specs.Asking.{Asking}
use Rattle.dnsv_gaps.specs.Cases.{HasNone, HasOne, IsAt}
use Rattle.dnsv_gaps.specs.questions.Listing.{AreOfNumbers}
use Rattle.dnsv_gaps.specs.Parts.{AreFactsOf}
use Rattle.dnsv_gaps.specs.Sources.{AreSources, IsSourceNsec3, source_said}
use Rattle.dnsv_gaps.specs.Unusable.{AreUnusable}

-- ---- what a source says of a name

-- the record is one of a delegation without DS
abbrev pub IsUnsignedAt : RecordWords RecordNumber → Labels → RecordNumber → Type 0
IsUnsignedAt said name = said.TypesAt name IsUnsignedDelegation

-- the record is the lowest at the name, and has such types
abbrev pub IsLowestAt : RecordWords RecordNumber → Labels → ((ℕ → Type 0) → Type 0) → RecordNumber → Type 0
IsLowestAt said name Says number = IsFirstToSay number_cmp (IsAt said name) number × said.TypesAt name Says number

-- what a record with NS has that isn't one of such a delegation: DS, or else SOA
abbrev pub IsHeldInstead : (ℕ → Type 0) → RecordType → Type 0
IsHeldInstead has held = has ns × ((has ds × (held.0 ≡ ds)) ⊎ ((¬ has ds) × has soa × (held.0 ≡ soa)))

-- The first case that is so of the name, which has this parent, by what the records of a source say. HasOptOut is that one of them
-- has the Opt-Out flag.
abbrev pub IsCutCase : Basis → RecordWords RecordNumber → Type 0 → Labels → Labels → CutCase → Type 0
IsCutCase basis said HasOptOut parent cut (case.Delegation rrsets) =
    HasOne (IsUnsignedAt said cut) × AreFactsOf basis (IsUnsignedAt said cut) rrsets.items
IsCutCase basis said HasOptOut parent cut case.NoCut =
    HasNone (IsUnsignedAt said cut) × HasOne (IsLowestAt said cut (λ has. ¬ has ns))
IsCutCase basis said HasOptOut parent cut (case.Signed signed) =
    HasNone (IsUnsignedAt said cut) × IsLowestAt said cut (λ has. IsHeldInstead has signed.held) signed.number
    × AreRrsetFacts basis signed.number.rrset signed.rrset
IsCutCase basis said HasOptOut parent cut (case.OptOut opt_out) =
    HasNone (IsAt said cut) × HasOne (said.OptedOut cut) × AreFactsOf basis (said.Encloser parent) opt_out.shown.items
    × AreFactsOf basis (said.OptedOut cut) opt_out.covers.items
IsCutCase basis said HasOptOut parent cut case.Uncovered = HasNone (IsAt said cut) × HasNone (said.OptedOut cut) × HasOptOut
IsCutCase basis said HasOptOut parent cut case.Unmatched = HasNone (IsAt said cut) × HasNone (said.OptedOut cut) × (¬ HasOptOut)

-- an NSEC3 record of the source has the Opt-Out flag (RFC 5155 6)
abbrev pub HasOptOut : Asking → Labels → Chain → Type 0
HasOptOut a zone ByNsec = ⊥
HasOptOut a zone (ByNsec3 parameters) = (number : RecordNumber) × (nsec3 : Nsec3Record) × IsSourceNsec3 a zone number nsec3
    × (nsec3.parameters ≡ parameters) × (nsec3.flags ≢ 0)

-- the source of the zone, which has the place among them, says this of the name with so many labels
pub record IsCutSource (a : Asking) (zone : Labels) (c : ℕ) (placed : ℕ × Chain) (facts : CutSource) : Type 0 where
  pub place : facts.place ≡ placed.0
  pub its_case : IsCutCase a.basis (source_said a zone placed.1) (HasOptOut a zone placed.1) (rightmost a.name (c - 1))
      (rightmost a.name c) facts.case

-- ---- the name that is shown

-- the known zone next below the one with so many labels, toward the name
pub record IsNextZone (a : Asking) (n next : ℕ) : Type 0 where
  pub below : n < next
  pub within : next ≤ length a.name
  pub known : IsKnownZone a.basis a.name a.rtype (rightmost a.name next)
  pub fewest : (m : ℕ) → n < m → m < next → ¬ IsKnownZone a.basis a.name a.rtype (rightmost a.name m)

-- if there is one
abbrev pub IsNext : Asking → ℕ → Option ℕ → Type 0
IsNext a n None = (m : ℕ) → n < m → m ≤ length a.name → ¬ IsKnownZone a.basis a.name a.rtype (rightmost a.name m)
IsNext a n (Some next) = IsNextZone a n next

abbrev pub IsThere : Option ℕ → Type 0
IsThere None = ⊥
IsThere (Some next) = ⊤

-- something may answer the question
abbrev pub HasGoal : Asking → Type 0
HasGoal a = (rrset : ReceivedRrset) × Contains a.basis.rrsets rrset × IsGoal a.name a.rtype rrset

-- it is a DS RRset of the zone, and has a signature by one above it
pub record IsDsFromAbove (zone : Labels) (rrset : ReceivedRrset) : Type 0 where
  pub owner : SameName rrset.owner zone
  pub its_type : rrset.rtype ≡ ds
  pub rrsig : Rrsig
  pub its : IsSignatureOf rrset rrsig
  pub above : IsBelow zone rrsig.signer

abbrev pub HasDsFromAbove : List ReceivedRrset → Labels → Type 0
HasDsFromAbove rrsets zone = (rrset : ReceivedRrset) × Contains rrsets rrset × IsDsFromAbove zone rrset

-- a record of some source of the zone says that the name has such types
abbrev pub IsTypedBySome : Asking → Labels → Labels → ((ℕ → Type 0) → Type 0) → Type 0
IsTypedBySome a zone name Says = (chain : Chain) × (number : RecordNumber) × (source_said a zone chain).TypesAt name Says number

-- by a record of some source a delegation without DS may be left out at the name
abbrev pub IsOptedOutBySome : Asking → Labels → Labels → Type 0
IsOptedOutBySome a zone name = (chain : Chain) × (number : RecordNumber) × (source_said a zone chain).OptedOut name number

-- A name that is no known zone is seen as a delegation where an NS or SOA RRset is at it, whoever signed that; by a record of a
-- delegation; or where Opt-Out may leave it out, and something may answer or a known zone is below.
abbrev pub IsSeenHere : Asking → Labels → Option ℕ → Labels → Type 0
IsSeenHere a zone next cut = HasRrset a.basis.rrsets cut ns ⊎ HasRrset a.basis.rrsets cut soa ⊎ IsTypedBySome a zone cut IsDelegation
    ⊎ ((HasGoal a ⊎ IsThere next) × IsOptedOutBySome a zone cut)

-- The known zone next below is, where it has no anchor of its own, no DS RRset of it is signed from above, and a record says
-- that it has none, or Opt-Out may leave it out.
pub record IsSeenUnsigned (a : Asking) (zone cut : Labels) : Type 0 where
  pub no_anchor : ¬ HasOwnAnchor a.basis.anchors cut
  pub no_ds : ¬ HasDsFromAbove a.basis.rrsets cut
  pub unsigned : IsTypedBySome a zone cut IsUnsignedDelegation ⊎ IsOptedOutBySome a zone cut

-- the name with so many labels is seen so; none beyond the known zone next below is
abbrev pub IsSeen : Asking → Labels → Option ℕ → ℕ → Type 0
IsSeen a zone None c = IsSeenHere a zone None (rightmost a.name c)
IsSeen a zone (Some next) c = ((c < next) × IsSeenHere a zone (Some next) (rightmost a.name c))
    ⊎ ((c ≡ next) × IsSeenUnsigned a zone (rightmost a.name c))

-- and no name between it and the zone, which has n labels
pub record IsShown (a : Asking) (n : ℕ) (next : Option ℕ) (c : ℕ) : Type 0 where
  pub seen : IsSeen a (rightmost a.name n) next c
  pub first : (fewer : ℕ) → n < fewer → fewer < c → ¬ IsSeen a (rightmost a.name n) next fewer

-- ---- the facts

-- what is so of the name with c labels, below the zone with n, whose sources are these
pub record AreCutFacts (a : Asking) (n : ℕ) (next : Option ℕ) (chains : List Chain) (c : ℕ) (facts : CutFacts) : Type 0 where
  pub name : facts.name ≡ c
  pub is_shown : IsTrue facts.is_shown ↔ IsShown a n next c
  pub sources : AllZip (IsCutSource a (rightmost a.name n) c) (enumerate_from 0 chains) facts.sources.items

-- how many labels the lowest name has that may be a delegation: the name itself, or where DS is asked the one above it
abbrev pub lowest_cut : Asking → ℕ
lowest_cut a = if a.rtype == ds then length a.name - 1 else length a.name

-- what is so of each name below the zone with n labels, from few labels to many
pub record AreCutsBelow (a : Asking) (n : ℕ) (cuts : List CutFacts) : Type 0 where
  pub next : Option ℕ
  pub next_is : IsNext a n next
  pub chains : List Chain
  pub are_sources : AreSources a (rightmost a.name n) chains
  pub each : AllZip (AreCutFacts a n next chains) (range_with_len (n + 1) (lowest_cut a - n)) cuts

-- what is so of the zone: of the names below it, and of its records that can't be used
pub record AreParentFacts (a : Asking) (facts : ParentFacts) : Type 0 where
  pub cuts : AreCutsBelow a facts.labels facts.cuts.items
  pub unusable : AreUnusable a (rightmost a.name facts.labels) facts.unusable.items

-- the zone with n labels is known, and an anchor is at or above it
pub record IsParent (a : Asking) (n : ℕ) : Type 0 where
  pub within : n ≤ length a.name
  pub known : IsKnownZone a.basis a.name a.rtype (rightmost a.name n)
  pub anchored : HasAnchor a.basis.anchors (rightmost a.name n)

-- those of all such zones, from few labels to many
abbrev pub AreParents : Asking → List ParentFacts → Type 0
AreParents a = AreOfNumbers (λ parent. parent.labels) (IsParent a) (AreParentFacts a)
