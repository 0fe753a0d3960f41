use Rattle.dnsv_proof_forms.specs.words.Asked.{asked_name}
use Rattle.dnsv_proof_forms.specs.words.ChainSaid.{chain_said}
use Rattle.dnsv_proof_forms.proofs.lemmas.words.FirstLemmas.{some_first}
use Rattle.dnsv_proof_forms.proofs.words.said.is_absent.Goals as goal

pub returns : goal.returns
returns c = λ apex.
    some_first ((chain_said apex c.args.records.now).Absent (asked_name c.args.name.now c.args.asked)) c.absent.result c.is_some.result
    c.is_some.ensures (c.absent.ensures apex)
