-- What is found of cuts is shown by some chain, and how it is shown tells the cut.
use Rattle.std.proofs.Common.{◌≡◌, ℕ, Option, List}
use Rattle.std.specs.Prelude.{Some, None}
use Rattle.dnsv_names.specs.Name.{Labels}
use Rattle.dnsv_canonical.specs.Rrsets.{ReceivedRrset}
use Rattle.dnsv_denial.specs.proving.ChainOf.{CanBeShown}
use Rattle.dnsv_denial.specs.proving.ShownDenials.{IsFirstShown}
use Rattle.dnsv_proof_forms.specs.forms.Denials.{DenialForm}
use Rattle.dnsv_proof_forms.specs.forms.ShownUnsigned.{ShowsDenial}
use Rattle.dnsv_denial.specs.unsigned_cuts.Cuts.{IsOptOutCut, IsUnsignedCut, IsUnsignedDelegationCut, IsUnusableDsCut}
use Rattle.dnsv_denial.specs.unsigned_cuts.Cuts.IsUnsignedCut.{no_ds as cut_without_ds, no_usable_ds as cut_unusable, opt_out as cut_left_out}
use Rattle.dnsv_denial.specs.unsigned_cuts.Findings.{AreFindings}
use Rattle.dnsv_denial.specs.unsigned_cuts.ShownCut.{IsShownCut, cut_name}
use Rattle.dnsv_denial.specs.unsigned_cuts.ShownCut.IsShownCut.{no_ds, no_usable_ds, opt_out}
use Rattle.dnsv_proof_forms.specs.records.Numbers.{number_cmp}
use Rattle.dnsv_proof_forms.specs.declared.forms.denial.Denial.{Denial}
use Rattle.dnsv_proof_forms.specs.declared.forms.denial.Denial.TheVariants as denied
use Rattle.dnsv_denial.specs.declared.proving.shown_denial.ShownDenial.{ShownDenial}
use Rattle.dnsv_denial.specs.declared.unsigned_cuts.shown_cut.ShownCut.{ShownCut}
use Rattle.dnsv_denial.specs.declared.unsigned_cuts.shown_cut.ShownCut.TheVariants.{NoDs, NoUsableDs, OptOut}
use Rattle.dnsv_denial.proofs.lemmas.unsigned_cuts.FindingLemmas.{fewest_at, most_at, none_at}

module _ (Secured : ℕ → ℕ → Type 0) (rrsets : List ReceivedRrset) (name : Labels) where
  abbrev pub IsFirst : Denial → ShownDenial → Type 0
  IsFirst denial = IsFirstShown Secured rrsets name (λ said zone. DenialForm denial name said zone) (λ said zone. ShowsDenial number_cmp denial name said zone)

  module _ (one two three : Option ℕ) (found : AreFindings Secured rrsets name one two three) where
    -- ---- what is found can be shown

    pub delegation_can : (n : ℕ) → one ≡ Some n → CanBeShown Secured rrsets (denied.Delegation n) name
    delegation_can n is =
        let holds = (fewest_at (IsUnsignedDelegationCut Secured rrsets name) one n is found.unsigned_delegation).holds in
        (holds.1, holds.2, holds.3, record { fits = holds.0; form = holds.4 })

    pub out_can : (n : ℕ) → three ≡ Some n → CanBeShown Secured rrsets (denied.OptOut n) name
    out_can n is = (most_at (IsOptOutCut Secured rrsets name) three n is found.left_out).holds

    -- ---- how it is shown

    pub shown_no_ds : (n : ℕ) (shown : ShownDenial) → one ≡ Some n → IsFirst (denied.Delegation n) shown → IsShownCut Secured rrsets name (NoDs n shown)
    shown_no_ds n shown is first = no_ds n shown (fewest_at (IsUnsignedDelegationCut Secured rrsets name) one n is found.unsigned_delegation) first

    pub shown_unusable : (n : ℕ) → one ≡ None → two ≡ Some n → IsShownCut Secured rrsets name (NoUsableDs n)
    shown_unusable n no_first is =
        no_usable_ds n (none_at (IsUnsignedDelegationCut Secured rrsets name) one no_first found.unsigned_delegation)
        (fewest_at (IsUnusableDsCut Secured rrsets name) two n is found.unusable_ds)

    pub shown_left_out : (n : ℕ) (shown : ShownDenial) → one ≡ None → two ≡ None → three ≡ Some n → IsFirst (denied.OptOut n) shown → IsShownCut Secured rrsets name (OptOut n shown)
    shown_left_out n shown no_first no_second is first =
        opt_out n shown (none_at (IsUnsignedDelegationCut Secured rrsets name) one no_first found.unsigned_delegation)
        (none_at (IsUnusableDsCut Secured rrsets name) two no_second found.unusable_ds)
        (most_at (IsOptOutCut Secured rrsets name) three n is found.left_out) first

  -- ---- the cut

  pub cut_of_shown : (shown : ShownCut) → IsShownCut Secured rrsets name shown → IsUnsignedCut Secured rrsets name (cut_name name shown)
  cut_of_shown whole (no_ds labels shown fewest first) = cut_without_ds labels fewest
  cut_of_shown whole (no_usable_ds labels none fewest) = cut_unusable labels none fewest
  cut_of_shown whole (opt_out labels shown none no_second most first) = cut_left_out labels none no_second most
