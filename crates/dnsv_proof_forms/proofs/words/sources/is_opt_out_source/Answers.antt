use Rattle.std.proofs.Common.{ℕ, sym, subst}
use Rattle.std.specs.Prelude.{◌↔◌, IsTrue}
use Rattle.dnsv_zones.specs.chains.Rdata.{parameters_of}
use Rattle.dnsv_proof_forms.specs.words.ChainSaid.{IsOptOutOfChain}
use Rattle.dnsv_proof_forms.proofs.lemmas.words.SourceLemmas.{opt_out_found}
use Rattle.dnsv_proof_forms.proofs.words.sources.is_opt_out_source.Goals as goal

pub returns-in-Nsec3 : goal.returns-in-Nsec3
returns-in-Nsec3 c =
    subst (λ records. IsTrue c.is_some.result ↔ ((place : ℕ) × IsOptOutOfChain records place)) (sym c.in-Nsec3.is)
    (opt_out_found (parameters_of c.in-Nsec3.hashed.now.parameters.now) c.in-Nsec3.hashed.now.entries.now c.first_to_say.result c.is_some.result c.is_some.ensures
    (rw c.as_slice.ensures at c.first_to_say.ensures))
