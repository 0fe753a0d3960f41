use Rattle.dnsv_proof_forms.specs.forms.ProofForms.ShowsNoName.{no_name}
use Rattle.dnsv_proof_forms.specs.words.ChainSaid.{chain_said}
use Rattle.dnsv_proof_forms.proofs.lemmas.forms.WildcardLemmas.{no_name_none, no_name_shown}
use Rattle.dnsv_proof_forms.proofs.forms.by_wildcard.no_name.Goals as goal

pub returns-in_default : goal.returns-in_default
returns-in_default c =
    no_name_none (chain_said c.args.apex.now c.args.records.now) c.args.apex.now c.args.name.now c.in_default.ensures

pub returns : goal.returns
returns c =
    no_name c.in-Some.parts
    (no_name_shown (chain_said c.args.apex.now c.args.records.now) c.args.apex.now c.args.name.now c.in-Some.parts c.in-Some.ensures)
