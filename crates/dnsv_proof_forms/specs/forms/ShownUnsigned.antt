-- How records show that a name may be unsigned, for so many of its labels: of each part the first record that says so.
-- `cmp` is the order of the records' indices.
use Rattle.std.specs.Prelude.{◌≡◌, ◌+◌, ◌≤◌, ℕ, Option, length}
use Rattle.std.specs.declared.cmp.Ordering.{Ordering}
use Rattle.dnsv_names.specs.Name.{Labels, IsAtOrBelow, rightmost}
use Rattle.dnsv_names.specs.Order.{IsBelow}
use Rattle.dnsv_zones.specs.forms.Forms.{IsAbove}
use Rattle.dnsv_zones.specs.forms.Parts.{IsFirstToSay}
use Rattle.dnsv_zones.specs.forms.RecordWords.{RecordWords}
use Rattle.dnsv_zones.specs.zones.Types.{IsUnsignedDelegation}
use Rattle.dnsv_proof_forms.specs.forms.ProofForms.{ShowsEncloser, ShowsNoName, ShowsNoData, ShowsNoCloser, ShowsWildcard}
use Rattle.dnsv_proof_forms.specs.declared.forms.denial.Denial.{Denial}
use Rattle.dnsv_proof_forms.specs.declared.forms.denial.Denial.TheVariants as denied
use Rattle.dnsv_proof_forms.specs.declared.forms.proof_form.ProofForm.{ProofForm}
use Rattle.dnsv_proof_forms.specs.declared.forms.proof_form.ProofForm.TheVariants.{Delegation, OptOut, WildcardOptOut, OptOutCloser}
use Rattle.dnsv_proof_forms.specs.declared.forms.proof_form.WildcardParts.{WildcardParts}

-- ---- a delegation without DS

pub record ShowsDelegationBy
    {Index : Type 0} (cmp : Index → Index → Ordering) (said : RecordWords Index) (apex name : Labels) (labels : ℕ)
    (index : Index) : Type 0 where
  pub fits : labels ≤ length name
  pub at_or_above : IsAtOrBelow name (rightmost name labels)
  pub below_apex : IsBelow (rightmost name labels) apex
  pub types : IsFirstToSay cmp (said.TypesAt (rightmost name labels) IsUnsignedDelegation) index

pub data ShowsDelegation
    {Index : Type 0} (cmp : Index → Index → Ordering) (said : RecordWords Index) (apex name : Labels) (labels : ℕ)
    : ProofForm Index → Type 0 where
  delegation : (index : Index) → ShowsDelegationBy cmp said apex name labels index
      → ShowsDelegation cmp said apex name labels (Delegation labels index)

-- ---- Opt-Out

-- the closest encloser, and that the next closer name is covered with the Opt-Out flag
pub record ShowsOptOutBy
    {Index : Type 0} (cmp : Index → Index → Ordering) (said : RecordWords Index) (apex name : Labels) (labels : ℕ)
    (by : Option Index) (index : Index) : Type 0 where
  pub above : IsAbove apex name labels
  pub encloser : ShowsEncloser cmp said (rightmost name labels) by
  pub next_closer : IsFirstToSay cmp (said.OptedOut (rightmost name (labels + 1))) index

-- where no record does that, one covers it without the flag, and one with it the wildcard at the closest encloser
pub record ShowsWildcardOptOutBy
    {Index : Type 0} (cmp : Index → Index → Ordering) (said : RecordWords Index) (apex name : Labels)
    (parts : WildcardParts Index) : Type 0 where
  pub none : (index : Index) → ¬ said.OptedOut (rightmost name (parts.labels + 1)) index
  pub shows : ShowsWildcard cmp said apex name (λ wildcard. said.OptedOut wildcard) parts

pub data ShowsOptOut
    {Index : Type 0} (cmp : Index → Index → Ordering) (said : RecordWords Index) (apex name : Labels) (labels : ℕ)
    : ProofForm Index → Type 0 where
  opt_out : (by : Option Index) (index : Index) → ShowsOptOutBy cmp said apex name labels by index
      → ShowsOptOut cmp said apex name labels (OptOut labels by index)
  wildcard_opt_out : (parts : WildcardParts Index) → parts.labels ≡ labels
      → ShowsWildcardOptOutBy cmp said apex name parts
      → ShowsOptOut cmp said apex name labels (WildcardOptOut parts)

-- ---- Opt-Out against an answer from the wildcard

pub record ShowsOptOutCloserBy
    {Index : Type 0} (cmp : Index → Index → Ordering) (said : RecordWords Index) (apex name : Labels) (labels : ℕ)
    (index : Index) : Type 0 where
  pub above : IsAbove apex name labels
  pub next_closer : IsFirstToSay cmp (said.OptedOut (rightmost name (labels + 1))) index

pub data ShowsOptOutCloser
    {Index : Type 0} (cmp : Index → Index → Ordering) (said : RecordWords Index) (apex name : Labels) (labels : ℕ)
    : ProofForm Index → Type 0 where
  opt_out_closer : (index : Index) → ShowsOptOutCloserBy cmp said apex name labels index
      → ShowsOptOutCloser cmp said apex name labels (OptOutCloser labels index)

-- ---- whatever it is

abbrev pub ShowsDenial
    : {Index : Type 0} → (Index → Index → Ordering) → Denial → Labels → RecordWords Index → Labels → ProofForm Index
    → Type 0
ShowsDenial cmp denied.NoName name said apex form = ShowsNoName cmp said apex name form
ShowsDenial cmp (denied.NoData rtype) name said apex form = ShowsNoData cmp said apex name rtype.0 form
ShowsDenial cmp (denied.NoCloser labels) name said apex form = ShowsNoCloser cmp said apex name labels form
ShowsDenial cmp (denied.Delegation labels) name said apex form = ShowsDelegation cmp said apex name labels form
ShowsDenial cmp (denied.OptOut labels) name said apex form = ShowsOptOut cmp said apex name labels form
ShowsDenial cmp (denied.OptOutCloser labels) name said apex form = ShowsOptOutCloser cmp said apex name labels form
