use Rattle.std.proofs.Common.{subst, sym}
use Rattle.dnsv_zones.specs.forms.Nsec.{IsEmptyNonTerminalBy}
use Rattle.dnsv_proof_forms.specs.records.Record.{read_entry}
use Rattle.dnsv_proof_forms.specs.words.Asked.{asked_name}
use Rattle.dnsv_proof_forms.specs.words.ChainSaid.{chain_said}
use Rattle.dnsv_proof_forms.specs.words.SaidAt.{IsSaidAt, IsFirstPlace}
use Rattle.dnsv_proof_forms.proofs.words.said.empty_non_terminal.Goals as goal

pub returns-in-Nsec : goal.returns-in-Nsec
returns-in-Nsec c = λ apex.
    subst (λ records. IsFirstPlace ((chain_said apex records).EmptyNonTerminal (asked_name c.args.name.now c.args.asked)) c.first_to_say.result) (sym c.in-Nsec.is)
    (subst (λ name. IsFirstPlace (IsSaidAt (λ entry. IsEmptyNonTerminalBy (read_entry entry) name) c.in-Nsec.entries.now) c.first_to_say.result)
    c.of-empty_non_terminal.ensures c.first_to_say.ensures)
