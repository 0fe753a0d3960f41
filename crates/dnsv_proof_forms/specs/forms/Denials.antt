-- What is denied of a question's name, or shown of where it may be unsigned, as forms over what records say.
use Rattle.std.specs.Prelude.{◌≤◌, ℕ, length}
use Rattle.dnsv_names.specs.Name.{Labels, rightmost}
use Rattle.dnsv_zones.specs.forms.Forms.{NoNameForm, NoDataForms, NoCloserForm, UnsignedCutForm}
use Rattle.dnsv_zones.specs.forms.Parts.{OptsOut, OptsOutNextCloser}
use Rattle.dnsv_zones.specs.forms.RecordWords.{RecordWords, words}
use Rattle.dnsv_proof_forms.specs.declared.forms.denial.Denial.{Denial}
use Rattle.dnsv_proof_forms.specs.declared.forms.denial.Denial.TheVariants.{NoName, NoData, NoCloser, Delegation, OptOut, OptOutCloser}

-- a record shows a delegation without DS at the name's so many rightmost labels, below the apex
pub record IsDelegationAt {Index : Type 0} (said : RecordWords Index) (apex name : Labels) (labels : ℕ) : Type 0 where
  pub fits : labels ≤ length name
  pub form : UnsignedCutForm (words said) apex name (rightmost name labels)

-- the form of the denial stands
abbrev pub DenialForm : {Index : Type 0} → Denial → Labels → RecordWords Index → Labels → Type 0
DenialForm NoName name said apex = NoNameForm (words said) apex name
DenialForm (NoData rtype) name said apex = NoDataForms (words said) apex name rtype.0
DenialForm (NoCloser labels) name said apex = NoCloserForm (words said) apex name labels
DenialForm (Delegation labels) name said apex = IsDelegationAt said apex name labels
DenialForm (OptOut labels) name said apex = OptsOut said apex name labels
DenialForm (OptOutCloser labels) name said apex = OptsOutNextCloser said apex name labels
