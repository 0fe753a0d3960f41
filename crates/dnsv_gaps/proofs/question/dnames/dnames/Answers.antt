use Rattle.std.proofs.Common.{ap, ◌∙◌, ◌++◌}
use Rattle.dnsv_gaps.specs.questions.Dnames.{dname_at}
use Rattle.dnsv_gaps.proofs.QuestionLemmas.DnameLemmas.{one_name_more}
use Rattle.dnsv_gaps.proofs.question.dnames.dnames.Goals as goal

pub loop-labels-preserved : goal.loop-labels-preserved
loop-labels-preserved c =
    let rrsets = c.args.question.now.facts.now.rrsets in
    let name = c.args.question.now.name.now in
    c.in_ok-add_dname.ensures ∙ ap (λ dnames. dnames ++ dname_at rrsets name c.loop-labels.labels) c.loop-labels.invariant
    ∙ one_name_more rrsets name c.loop-labels.labels
