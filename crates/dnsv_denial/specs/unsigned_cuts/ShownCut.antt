-- How it is shown from which name on a question's name may be unsigned, by the first chain that shows it.
use Rattle.std.specs.Prelude.{◌≡◌, ◌+◌, ℕ, List, length}
use Rattle.dnsv_names.specs.Name.{Labels, rightmost}
use Rattle.dnsv_zones.specs.forms.Parts.{OptsOut, OptsOutNextCloser}
use Rattle.dnsv_canonical.specs.Rrsets.{ReceivedRrset}
use Rattle.dnsv_proof_forms.specs.forms.Denials.{IsDelegationAt}
use Rattle.dnsv_proof_forms.specs.forms.ProofForms.{form_records}
use Rattle.dnsv_proof_forms.specs.forms.ShownUnsigned.{ShowsDelegation, ShowsOptOut, ShowsOptOutCloser}
use Rattle.dnsv_denial.specs.proving.ShownDenials.{IsFirstShown, kind_of}
use Rattle.dnsv_denial.specs.unsigned_cuts.Cuts.{IsFewest, IsMost, IsOptOutCut, IsUnsignedDelegationCut, IsUnusableDsCut}
use Rattle.dnsv_denial.specs.gathering.EvidenceWords.{Chain, GoesBefore, evidence_said}
use Rattle.dnsv_proof_forms.specs.records.Numbers.{number_cmp}
use Rattle.dnsv_denial.specs.declared.proving.shown_denial.ShownDenial.{ShownDenial}
use Rattle.dnsv_denial.specs.declared.unsigned_cuts.shown_cut.ShownCut.{ShownCut}
use Rattle.dnsv_denial.specs.declared.unsigned_cuts.shown_cut.ShownCut.TheVariants.{NoDs, NoUsableDs, OptOut}

-- the name from which on the question's may be unsigned
abbrev pub cut_name : Labels → ShownCut → Labels
cut_name name (NoDs labels shown) = rightmost name labels
cut_name name (NoUsableDs labels) = rightmost name labels
cut_name name (OptOut labels shown) = rightmost name (labels + 1)

-- The kinds of cuts in their order, as in `IsUnsignedCut`. Of the highest delegation without DS, and of the closest
-- encloser with most labels where an unsigned delegation may be left out, the first chain is told that shows it: by the
-- zone with most labels, by NSEC before NSEC3, and with the record of lowest number for each part.
pub data IsShownCut (Secured : ℕ → ℕ → Type 0) (rrsets : List ReceivedRrset) (name : Labels) : ShownCut → Type 0 where
  no_ds : (labels : ℕ) (shown : ShownDenial) → IsFewest (IsUnsignedDelegationCut Secured rrsets name) labels
      → IsFirstShown Secured rrsets name (λ said zone. IsDelegationAt said zone name labels)
      (λ said zone. ShowsDelegation number_cmp said zone name labels) shown
      → IsShownCut Secured rrsets name (NoDs labels shown)
  no_usable_ds : (labels : ℕ) → ((any : ℕ) → ¬ IsUnsignedDelegationCut Secured rrsets name any)
      → IsFewest (IsUnusableDsCut Secured rrsets name) labels
      → IsShownCut Secured rrsets name (NoUsableDs labels)
  opt_out : (labels : ℕ) (shown : ShownDenial) → ((any : ℕ) → ¬ IsUnsignedDelegationCut Secured rrsets name any)
      → ((any : ℕ) → ¬ IsUnusableDsCut Secured rrsets name any) → IsMost (IsOptOutCut Secured rrsets name) labels
      → IsFirstShown Secured rrsets name (λ said zone. OptsOut said zone name labels)
      (λ said zone. ShowsOptOut number_cmp said zone name labels) shown
      → IsShownCut Secured rrsets name (OptOut labels shown)

-- Against an answer of the zone from the wildcard below so many labels: the first chain of the zone with a record that
-- has the Opt-Out flag and covers the next closer name.
pub record IsShownOptOutCloser
    (Secured : ℕ → ℕ → Type 0) (rrsets : List ReceivedRrset) (name : Labels) (labels : ℕ) (apex : Labels)
    (shown : ShownDenial) : Type 0 where
  pub zone : shown.proof.zone ≡ rightmost name (length apex)
  pub chain : Chain
  pub kind : shown.chain ≡ kind_of chain
  pub first : (other : Chain) → GoesBefore other chain
      → ¬ OptsOutNextCloser (evidence_said Secured rrsets apex other) apex name labels
  pub shows : ShowsOptOutCloser number_cmp (evidence_said Secured rrsets apex chain) apex name labels shown.form
  pub records : shown.proof.records ≡ form_records shown.form
