use Rattle.dnsv_names.proofs.LineFileLemmas.{has_more}
use Rattle.dnsv_questions.proofs.QuestionLemmas.{one_more}
use Rattle.dnsv_questions.proofs.questions.test_lines.Goals as goal

pub loop-line-preserved : goal.loop-line-preserved
loop-line-preserved c =
    record {
      has = has_more c.args.text.now c.loop-line.yielded _ _ c.in-Some.line c.in-Some.ensures.steps c.loop-line.invariant.has;
      asked = one_more c.in-Some.line c.loop-line.invariant.asked c.in_ok-test_line.ensures.asked;
    }
