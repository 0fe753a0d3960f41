use Rattle.std.specs.List.{enumerate_from}
use Rattle.dnsv_canonical.specs.Index.Grouping.{IsIndexOf}
use Rattle.dnsv_canonical.proofs.IndexLemmas.Growth.{IsTaken}
use Rattle.dnsv_canonical.proofs.capture.index.Index.with.Given as goal

-- the RRsets so far are taken
abbrev pub invariant-loop-numbered : goal.invariant-loop-numbered
invariant-loop-numbered l =
    (of : IsIndexOf l.held l.self.numbers.items l.self.starts.items) → IsTaken (enumerate_from 1 l.held) of.firsts l.numbered-items l.numbered-index l.merged
