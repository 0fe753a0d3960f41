use Rattle.std.proofs.Common.{◌++◌}
use Rattle.dnsv_names.specs.Lines.LineFile.{SayEach}
use Rattle.dnsv_names.specs.Lines.{HasLines}
use Rattle.dnsv_questions.specs.QuestionFile.{IsAskedLine}
use Rattle.dnsv_questions.proofs.questions.questions_of.Given as goal

abbrev pub invariant-loop-line : goal.invariant-loop-line
invariant-loop-line l =
    record {
      has : HasLines l.text (l.yielded ++ l.line-iterator);
      each : SayEach IsAskedLine l.yielded l.questions.items;
    }
