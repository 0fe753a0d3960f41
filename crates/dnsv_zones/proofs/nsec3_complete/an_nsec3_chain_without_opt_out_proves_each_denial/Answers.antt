use Rattle.std.proofs.Common.{ℕ, ⊎_elim}
use Rattle.dnsv_zones.specs.forms.Nsec3.{nsec3_words, OptOutForm}
use Rattle.dnsv_zones.specs.forms.Forms.{NoNameForm, NoDataForms}
use Rattle.dnsv_zones.proofs.lemmas.completeness.Nsec3Complete.{no_name_proved, no_data_proved, no_opt_out, no_name_meant, no_data_meant}
use Rattle.dnsv_zones.proofs.nsec3_complete.an_nsec3_chain_without_opt_out_proves_each_denial.Goals as goal

pub returns-clause-missing_name : goal.returns-clause-missing_name
returns-clause-missing_name c = λ zone apex name t hash records chain apart without_opt_out. (
  λ lookup.
      ⊎_elim (λ (form : NoNameForm (nsec3_words hash records) apex name). form)
      (λ (opted : (labels : ℕ) × OptOutForm hash records apex name labels). absurd (no_opt_out hash records apex name opted.0 without_opt_out opted.1))
      (no_name_proved zone apex hash records chain name apart t lookup),
  no_name_meant zone apex hash records chain name apart t,
)

pub returns-clause-missing_type : goal.returns-clause-missing_type
returns-clause-missing_type c = λ zone apex name t hash records chain apart without_opt_out other another. (
  λ lookup.
      ⊎_elim (λ (form : NoDataForms (nsec3_words hash records) apex name t). form)
      (λ (opted : (labels : ℕ) × OptOutForm hash records apex name labels). absurd (no_opt_out hash records apex name opted.0 without_opt_out opted.1))
      (no_data_proved zone apex hash records chain name apart t lookup.0 other another lookup.1),
  no_data_meant zone apex hash records chain name apart t,
)
