use Rattle.std.proofs.Common.{◌++◌}
use Rattle.dnsv_names.specs.Lines.{HasLines}
use Rattle.dnsv_questions.proofs.QuestionLemmas.{AreSoMany}
use Rattle.dnsv_questions.proofs.questions.test_lines.Given as goal

abbrev pub invariant-loop-line : goal.invariant-loop-line
invariant-loop-line l =
    record { has : HasLines l.text (l.yielded ++ l.line-iterator); asked : AreSoMany l.yielded l.before }
