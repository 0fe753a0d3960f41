use Rattle.std.proofs.Common.{◌≡◌, ◌+◌, ◌<◌, ◌^◌, length}
use Rattle.dnsv_names.specs.Lines.{kept_from}
use Rattle.dnsv_names.specs.Lines.LineReading.{lines_in}
use Rattle.dnsv_names.proofs.lines.LinesIterator.next.Given as goal

abbrev pub invariant-loop-self : goal.invariant-loop-self
invariant-loop-self l =
    record {
      same : kept_from (l.self-inside.passed + 1) (lines_in l.self-inside.rest.now) ≡ kept_from (l.initial.self-inside.passed + 1) (lines_in l.initial.self-inside.rest.now);
      fits : l.self-inside.passed + length l.self-inside.rest.now < 2 ^ 64;
    }

abbrev pub decreases-loop-self : goal.decreases-loop-self
decreases-loop-self l = length l.self-inside.rest.now
