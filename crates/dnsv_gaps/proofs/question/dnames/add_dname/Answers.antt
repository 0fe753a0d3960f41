use Rattle.std.proofs.Common.{sym, ap, ◌∙◌, ◌++◌, append-nil}
use Rattle.dnsv_canonical.specs.Index.{numbers_at}
use Rattle.dnsv_gaps.proofs.QuestionLemmas.DnameLemmas.{none_at, one_at}
use Rattle.dnsv_gaps.proofs.question.dnames.add_dname.Goals as goal

pub returns-then-is_empty : goal.returns-then-is_empty
returns-then-is_empty c =
    let rrsets = c.args.question.now.facts.now.rrsets in
    let name = c.args.question.now.name.now in
    let are = c.at-numbers.ensures ∙ ap (λ each. numbers_at each c.suffix-above.result 39) c.capture.ensures
    ∙ ap (λ above. numbers_at rrsets above 39) c.suffix-above.ensures.labels in
    sym (append-nil c.args.dnames.now.items)
    ∙ ap (λ more. c.args.dnames.now.items ++ more)
    (sym (none_at rrsets name c.args.labels c.at-numbers.result.now c.is_empty.result are c.is_empty.ensures c.if-is_empty.true))

pub returns : goal.returns
returns c =
    let rrsets = c.args.question.now.facts.now.rrsets in
    let name = c.args.question.now.name.now in
    let are = c.at-numbers.ensures ∙ ap (λ each. numbers_at each c.suffix-above.result 39) c.capture.ensures
    ∙ ap (λ above. numbers_at rrsets above 39) c.suffix-above.ensures.labels in
    c.in_ok-push.ensures.items
    ∙ ap (λ more. c.args.dnames.now.items ++ more)
    (sym (one_at rrsets name c.args.labels c.at-numbers.result.now c.is_empty.result are c.is_empty.ensures c.if-is_empty.false))
