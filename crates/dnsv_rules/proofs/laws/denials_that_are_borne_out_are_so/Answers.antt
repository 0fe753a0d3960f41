use Rattle.std.proofs.Common.{◌≡◌, ⊎_elim}
use Rattle.dnsv_lines.specs.declared.line.denial.Form.TheVariants as form
use Rattle.dnsv_rules.specs.Borne.{DeniesType, IsDenialBorne}
use Rattle.dnsv_rules.proofs.bears.DenialLemmas.{no_data_so, no_name_so, record_so}
use Rattle.dnsv_rules.proofs.laws.denials_that_are_borne_out_are_so.Goals as goal

pub returns-clause-no_name : goal.returns-clause-no_name
returns-clause-no_name c = λ setting asked lines denial checks borne. no_name_so setting asked lines checks denial borne

pub returns-clause-no_data : goal.returns-clause-no_data
returns-clause-no_data c = λ setting asked lines denial checks borne. no_data_so setting asked lines checks denial borne

pub returns-clause-records : goal.returns-clause-records
returns-clause-records c = λ setting asked lines denial number checks borne there.
    ⊎_elim
    (λ (of_name : IsDenialBorne setting.rrsets lines (λ each. each ≡ form.NoName) denial).
    record_so setting asked lines checks (λ each. each ≡ form.NoName) denial of_name number there)
    (λ (of_data : IsDenialBorne setting.rrsets lines DeniesType denial).
    record_so setting asked lines checks DeniesType denial of_data number there)
    borne
