use Rattle.dnsv_answers.proofs.AnswerLemmas.{Reads}
use Rattle.dnsv_answers.proofs.answers.answers_in.Given as goal

abbrev pub invariant-loop-line : goal.invariant-loop-line
invariant-loop-line l = Reads l.initial.line-iterator l.line-iterator l.said.items
