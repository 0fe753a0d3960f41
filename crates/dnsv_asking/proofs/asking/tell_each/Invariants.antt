use Rattle.std.proofs.Common.{◌≡◌}
use Rattle.dnsv_message.specs.Streams.Counted.{failures_of, inner_of}
use Rattle.dnsv_chain.specs.Basis.{IsCaseOf, Basis}
use Rattle.dnsv_asking.specs.Judging.{case_of}
use Rattle.dnsv_asking.proofs.AskingLemmas.Steps.{ToldSoFar}
use Rattle.dnsv_asking.proofs.asking.tell_each.Given as goal

abbrev pub invariant-loop-question : goal.invariant-loop-question
invariant-loop-question g l = ((basis : Basis) → IsCaseOf basis (case_of l.fn.judge) → l.fn.reporting.rrsets.now ≡ basis.rrsets
    → basis.moment ≡ l.fn.reporting.moment
    → ToldSoFar l.fn.reporting.telling.format l.fn.reporting.telling.why l.fn.reporting.numbers.now basis l.fn.questions l.question-index l.end
    (g.W.Write.contents (inner_of l.fn.output))
    (g.W.Write.contents (inner_of l.output)))
    × (failures_of l.output ≡ failures_of l.fn.output) × (l.judge ≡ l.fn.judge)
