use Rattle.std.proofs.Common.{sym}
use Rattle.dnsv_answers.proofs.DecimalLemmas.{marked, parsed, unread}
use Rattle.dnsv_answers.proofs.heading.decimal_u64.Goals as goal

pub returns-then-is_marked : goal.returns-then-is_marked
returns-then-is_marked c = marked c.args.text.now c.if-is_marked.ensures

pub returns-in_default : goal.returns-in_default
returns-in_default c = unread c.args.text.now c.in_default.ensures.cases.0

pub returns : goal.returns
returns c =
    rw c.ok.ensures.value
    (parsed c.args.text.now c.parse.result (sym c.if-is_marked.ensures) (rw c.in-Ok.ensures.cases.0 at c.parse.ensures.value.0))
