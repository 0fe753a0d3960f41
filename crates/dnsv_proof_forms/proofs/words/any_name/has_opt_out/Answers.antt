use Rattle.std.proofs.Common.{ℕ, subst}
use Rattle.dnsv_proof_forms.specs.words.ChainSaid.{chain_said}
use Rattle.dnsv_proof_forms.proofs.lemmas.words.AnyNameLemmas.{nsec3_opt_out}
use Rattle.dnsv_proof_forms.proofs.words.any_name.has_opt_out.Goals as goal

pub returns-in-Nsec3 : goal.returns-in-Nsec3
returns-in-Nsec3 c = λ apex name some.
    nsec3_opt_out apex name c.first_to_say.result c.is_some.result c.is_some.ensures c.in-Nsec3.hashed.now (rw c.as_slice.ensures at c.first_to_say.ensures)
    (subst (λ records. (place : ℕ) × (chain_said apex records).OptedOut name place) c.in-Nsec3.is some)
