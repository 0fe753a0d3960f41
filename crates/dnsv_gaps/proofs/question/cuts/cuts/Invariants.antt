use Rattle.std.proofs.Common.{map}
use Rattle.dnsv_gaps.specs.Asking.{asking}
use Rattle.dnsv_gaps.specs.SourceSearch.{held_chain}
use Rattle.dnsv_gaps.proofs.QuestionLemmas.CutLemmas.{AreCutsTo}
use Rattle.dnsv_gaps.proofs.question.cuts.cuts.Given as goal

-- those of the names so far
abbrev pub invariant-loop-name : goal.invariant-loop-name
invariant-loop-name l =
    AreCutsTo (asking l.parent.question.now) l.parent.labels l.parent.next (map held_chain l.parent.sources.now) l.lowest l.name l.cuts.items
