use Rattle.dnsv_proof_forms.proofs.lemmas.words.AnyNameLemmas.{nothing_denied}
use Rattle.dnsv_proof_forms.proofs.forms.denial.Denial.places.Goals as goal

pub returns-then-not-has_records : goal.returns-then-not-has_records
returns-then-not-has_records c =
    nothing_denied c.args.apex.now c.args.name.now c.args.records.now
    (λ some. let holds = c.has_records.ensures.1 some in let fails = c.if-not-has_records.true in cc) c.args.self
