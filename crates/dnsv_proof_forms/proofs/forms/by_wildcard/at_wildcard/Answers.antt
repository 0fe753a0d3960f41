use Rattle.std.proofs.Common.{subst, sym}
use Rattle.dnsv_names.specs.Name.{rightmost}
use Rattle.dnsv_names.specs.Tree.{wildcard_of}
use Rattle.dnsv_proof_forms.specs.forms.ByWildcard.{wildcard_said}
use Rattle.dnsv_proof_forms.specs.words.ChainSaid.{chain_said}
use Rattle.dnsv_proof_forms.specs.words.SaidAt.{IsFirstPlace}
use Rattle.dnsv_proof_forms.proofs.forms.by_wildcard.at_wildcard.Goals as goal

pub returns-in-Absent : goal.returns-in-Absent
returns-in-Absent c = λ apex.
    subst (λ asked. IsFirstPlace (wildcard_said asked (chain_said apex c.args.records.now) (wildcard_of (rightmost c.args.name.now c.args.labels))) c.absent.result)
    (sym c.in-Absent.is) (c.absent.ensures apex)

pub returns-in-Empty : goal.returns-in-Empty
returns-in-Empty c = λ apex.
    subst (λ asked. IsFirstPlace (wildcard_said asked (chain_said apex c.args.records.now) (wildcard_of (rightmost c.args.name.now c.args.labels))) c.empty_non_terminal.result)
    (sym c.in-Empty.is) (c.empty_non_terminal.ensures apex)

pub returns-in-Without : goal.returns-in-Without
returns-in-Without c = λ apex.
    subst (λ asked. IsFirstPlace (wildcard_said asked (chain_said apex c.args.records.now) (wildcard_of (rightmost c.args.name.now c.args.labels))) c.types_at.result)
    (sym c.in-Without.is) (c.types_at.ensures apex)
