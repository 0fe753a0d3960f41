use Rattle.dnsv_proof_forms.specs.words.Asked.{asked_name}
use Rattle.dnsv_proof_forms.specs.words.ChainSaid.{chain_said}
use Rattle.dnsv_proof_forms.proofs.lemmas.words.FirstLemmas.{some_first}
use Rattle.dnsv_proof_forms.proofs.words.said.is_opted_out.Goals as goal

pub returns : goal.returns
returns c = λ apex.
    some_first ((chain_said apex c.args.records.now).OptedOut (asked_name c.args.name.now c.args.asked)) c.opted_out.result c.is_some.result
    c.is_some.ensures (c.opted_out.ensures apex)
