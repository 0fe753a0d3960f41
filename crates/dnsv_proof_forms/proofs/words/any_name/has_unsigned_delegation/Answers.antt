use Rattle.std.proofs.Common.{subst}
use Rattle.dnsv_zones.specs.forms.RecordWords.{words}
use Rattle.dnsv_zones.specs.zones.Types.{IsUnsignedDelegation}
use Rattle.dnsv_proof_forms.specs.words.ChainSaid.{chain_said}
use Rattle.dnsv_proof_forms.proofs.lemmas.words.AnyNameLemmas.{nsec_delegation, nsec3_delegation}
use Rattle.dnsv_proof_forms.proofs.words.any_name.has_unsigned_delegation.Goals as goal

pub returns-in-Nsec : goal.returns-in-Nsec
returns-in-Nsec c = λ apex name some.
    nsec_delegation apex name c.first_to_say.result c.is_some.result c.is_some.ensures c.in-Nsec.entries.now c.first_to_say.ensures
    (subst (λ records. (words (chain_said apex records)).TypesAt name IsUnsignedDelegation) c.in-Nsec.is some)

pub returns-in-Nsec3 : goal.returns-in-Nsec3
returns-in-Nsec3 c = λ apex name some.
    nsec3_delegation apex name c.first_to_say-in-Nsec3.result c.is_some-in-Nsec3.result c.is_some-in-Nsec3.ensures c.in-Nsec3.hashed.now (rw c.as_slice.ensures at c.first_to_say-in-Nsec3.ensures)
    (subst (λ records. (words (chain_said apex records)).TypesAt name IsUnsignedDelegation) c.in-Nsec3.is some)
