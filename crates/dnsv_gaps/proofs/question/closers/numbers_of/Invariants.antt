use Rattle.std.proofs.Common.{[], take}
use Rattle.dnsv_canonical.specs.declared.number.RecordNumber.{RecordNumber}
use Rattle.dnsv_verifier.specs.Asking.{AddsJust, ComesOfSome}
use Rattle.dnsv_gaps.proofs.QuestionLemmas.SayingLemmas.{SaidBy}
use Rattle.dnsv_gaps.proofs.question.closers.numbers_of.Given as goal

-- those of the sources so far
abbrev pub invariant-loop-held : goal.invariant-loop-held
invariant-loop-held l =
    AddsJust {X = RecordNumber} (ComesOfSome (SaidBy l.question l.zone l.asked l.word) (take l.held-index l.sources)) [] l.numbers.items
