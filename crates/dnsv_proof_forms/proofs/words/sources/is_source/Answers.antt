use Rattle.std.proofs.Common.{◌≡◌, ℕ, sym, subst}
use Rattle.std.specs.Prelude.{◌↔◌, IsTrue}
use Rattle.dnsv_zones.specs.chains.Rdata.{parameters_of}
use Rattle.dnsv_proof_forms.specs.records.Record.{read_nsec3}
use Rattle.dnsv_proof_forms.specs.words.ChainSaid.{IsOfChain}
use Rattle.dnsv_proof_forms.specs.words.SaidAt.{IsSaidAt}
use Rattle.dnsv_proof_forms.proofs.lemmas.words.FirstLemmas.{some_first}
use Rattle.dnsv_proof_forms.proofs.lemmas.words.SourceLemmas.{first_there, not_empty}
use Rattle.dnsv_proof_forms.proofs.words.sources.is_source.Goals as goal

pub returns-in-Nsec : goal.returns-in-Nsec
returns-in-Nsec c =
    subst (λ records. IsTrue c.is_not_empty.result ↔ ((place : ℕ) × IsOfChain records place)) (sym c.in-Nsec.is)
    (λ yes. first_there c.in-Nsec.entries.now (c.is_not_empty.ensures.0 yes), λ some. c.is_not_empty.ensures.1 (not_empty c.in-Nsec.entries.now some))

pub returns-in-Nsec3 : goal.returns-in-Nsec3
returns-in-Nsec3 c =
    subst (λ records. IsTrue c.is_some.result ↔ ((place : ℕ) × IsOfChain records place)) (sym c.in-Nsec3.is)
    (some_first (IsSaidAt (λ entry. (read_nsec3 entry).parameters ≡ parameters_of c.in-Nsec3.hashed.now.parameters.now) c.in-Nsec3.hashed.now.entries.now)
    c.first_to_say.result c.is_some.result c.is_some.ensures (rw c.as_slice.ensures at c.first_to_say.ensures))
