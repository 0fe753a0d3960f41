use Rattle.dnsv_answers.proofs.AnswerLemmas.{GoesOn}
use Rattle.dnsv_answers.proofs.answers.test_answers.Given as goal

abbrev pub invariant-loop-line : goal.invariant-loop-line
invariant-loop-line l = GoesOn l.initial.line-iterator l.line-iterator
