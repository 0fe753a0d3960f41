-- The first proof of a zone, chain by chain.
use Rattle.std.proofs.Common.{◌≡◌, ℕ, ◌+◌, ◌<◌, ◌≤◌, List, inl, inr, refl, sym, subst, ⊎_elim, arith}
use Rattle.std.proofs.lemmas.Bool.{cases_lt}
use Rattle.std.specs.Prelude.{Some, slice_get}
use Rattle.dnsv_names.specs.Name.{Labels, rightmost}
use Rattle.dnsv_zones.specs.chains.Nsec3Chain.{Parameters}
use Rattle.dnsv_zones.specs.forms.RecordWords.{words}
use Rattle.dnsv_zones.specs.zones.Types.{Denies, IsUnsignedDelegation}
use Rattle.dnsv_canonical.specs.Rrsets.{ReceivedRrset}
use Rattle.dnsv_denial.specs.gathering.Kept.{AreSets, IsZoneProof}
use Rattle.dnsv_denial.specs.proving.ChainOf.{IsShownBy, StandsAs}
use Rattle.dnsv_denial.specs.proving.ZoneChains.{chains_of}
use Rattle.dnsv_denial.specs.gathering.EvidenceWords.{Chain, nsec3_said}
use Rattle.dnsv_denial.specs.gathering.EvidenceWords.Chain.{ByNsec, ByNsec3}
use Rattle.dnsv_denial.specs.declared.proving.shown_denial.ShownDenial.{ShownDenial}
use Rattle.dnsv_proof_forms.specs.declared.records.name_hashes.NameHashes.{NameHashes}
use Rattle.dnsv_denial.proofs.lemmas.proving.ZoneChainLemmas.{HasOne, HasOneOf, in_their_order, no_circle, number_of}
use Rattle.dnsv_names.specs.Tree.{wildcard_of}
use Rattle.dnsv_proof_forms.specs.declared.forms.denial.Denial.{Denial}
use Rattle.dnsv_proof_forms.specs.declared.forms.denial.Denial.TheVariants.{NoName, NoData, NoCloser, Delegation, OptOut, OptOutCloser}
use Rattle.dnsv_canonical.specs.declared.number.RecordNumber.{RecordNumber}

-- a denial by a chain has a record of it
module _ (Secured : ℕ → ℕ → Type 0) (rrsets : List ReceivedRrset) (zone : Labels) (parameters : Parameters) where
  absent_one : (x : Labels) → (words (nsec3_said Secured rrsets zone parameters)).Absent x → HasOne Secured rrsets zone parameters
  absent_one x told = record { number = told.0; nsec3 = told.1.0; is = told.1.1; same = told.1.2.0.same_parameters }

  types_one : (x : Labels) (Says : (ℕ → Type 0) → Type 0) → (words (nsec3_said Secured rrsets zone parameters)).TypesAt x Says → HasOne Secured rrsets zone parameters
  types_one x Says told = record { number = told.0; nsec3 = told.1.0; is = told.1.1; same = told.1.2.0.same_parameters }

  out_one : (x : Labels) → (n : RecordNumber) × (nsec3_said Secured rrsets zone parameters).OptedOut x n → HasOne Secured rrsets zone parameters
  out_one x told = record { number = told.0; nsec3 = told.1.0; is = told.1.1; same = told.1.2.0.same_parameters }

  has_one : (denial : Denial) (name : Labels) → StandsAs Secured rrsets denial name zone (ByNsec3 parameters) → HasOne Secured rrsets zone parameters
  has_one NoName name form = absent_one _ form.wildcard
  has_one (NoCloser labels) name form = absent_one _ form.next_closer
  has_one (NoData rtype) name (inl form) = types_one name (λ has. Denies has rtype.0) form.types
  has_one (NoData rtype) name (inr (inl form)) = absurd form.empty_non_terminal.1
  has_one (NoData rtype) name (inr (inr (inl form))) = types_one (wildcard_of (rightmost name form.labels)) (λ has. Denies has rtype.0) form.types
  has_one (NoData rtype) name (inr (inr (inr form))) = absurd form.empty_non_terminal.1
  has_one (Delegation labels) name delegation = types_one (rightmost name labels) IsUnsignedDelegation delegation.form.types
  has_one (OptOut labels) name out =
      ⊎_elim
      (λ (next : (n : RecordNumber) × (nsec3_said Secured rrsets zone parameters).OptedOut (rightmost name (labels + 1)) n). out_one (rightmost name (labels + 1)) next)
      (λ (star : (n : RecordNumber) × (nsec3_said Secured rrsets zone parameters).OptedOut (wildcard_of (rightmost name labels)) n). out_one (wildcard_of (rightmost name labels)) star)
      out.opted_out
  has_one (OptOutCloser labels) name out = out_one (rightmost name (labels + 1)) out.opted_out

has_one_of : (Secured : ℕ → ℕ → Type 0) (rrsets : List ReceivedRrset) (denial : Denial) (name zone : Labels) (chain : Chain) → StandsAs Secured rrsets denial name zone chain
    → HasOneOf Secured rrsets zone chain
has_one_of Secured rrsets denial name zone ByNsec stands = tt
has_one_of Secured rrsets denial name zone (ByNsec3 parameters) stands = has_one Secured rrsets zone parameters denial name stands

-- ---- the first of the zone

module _ (Secured : ℕ → ℕ → Type 0) (rrsets : List ReceivedRrset) (denial : Denial) (name zone : Labels) (sets : List NameHashes) (are : AreSets Secured rrsets sets) where
  pub none_of_zone : ((k : ℕ) (chain : Chain) → slice_get (chains_of sets) k ≡ Some chain → ¬ StandsAs Secured rrsets denial name zone chain)
      → (chain : Chain) → ¬ StandsAs Secured rrsets denial name zone chain
  none_of_zone none chain stands = let it = number_of Secured rrsets zone sets are chain (has_one_of Secured rrsets denial name zone chain stands) in none it.0 chain it.1 stands

  pub first_of_zone : (number : ℕ) (chain : Chain) (shown : ShownDenial) → slice_get (chains_of sets) number ≡ Some chain → IsShownBy Secured rrsets denial name zone chain shown
      → ((k : ℕ) (earlier : Chain) → k < number → slice_get (chains_of sets) k ≡ Some earlier → ¬ StandsAs Secured rrsets denial name zone earlier)
      → IsZoneProof Secured rrsets denial name zone shown
  first_of_zone number chain shown there by none = record {
    chain = chain;
    by_chain = by;
    first = λ other before stands.
        let it = number_of Secured rrsets zone sets are other (has_one_of Secured rrsets denial name zone other stands) in
        ⊎_elim (λ (less : it.0 < number). none it.0 other less it.1 stands)
        (λ (most : number ≤ it.0). ⊎_elim
        (λ (after : number < it.0). no_circle other chain chain other before (in_their_order Secured rrsets sets are number it.0 chain other there it.1 after) refl refl)
        (λ (least : it.0 ≤ number). let same_number : it.0 ≡ number = omega (arith, most, least) in
        let moved : slice_get (chains_of sets) number ≡ Some other = subst (λ k. slice_get (chains_of sets) k ≡ Some other) same_number it.1 in
        let same : chain ≡ other = cc in
        no_circle other chain other chain before before same (sym same))
        (cases_lt number it.0))
        (cases_lt it.0 number);
  }
