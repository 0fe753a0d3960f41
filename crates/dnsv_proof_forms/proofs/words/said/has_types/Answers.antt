use Rattle.dnsv_proof_forms.specs.words.Asked.{asked_name, said_types}
use Rattle.dnsv_proof_forms.specs.words.ChainSaid.{chain_said}
use Rattle.dnsv_proof_forms.proofs.lemmas.words.FirstLemmas.{some_first}
use Rattle.dnsv_proof_forms.proofs.words.said.has_types.Goals as goal

pub returns : goal.returns
returns c = λ apex.
    some_first ((chain_said apex c.args.records.now).TypesAt (asked_name c.args.name.now c.args.asked) (said_types c.args.types)) c.types_at.result c.is_some.result
    c.is_some.ensures (c.types_at.ensures apex)
