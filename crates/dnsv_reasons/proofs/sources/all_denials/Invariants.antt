use Rattle.std.proofs.Common.{◌≡◌, length}
use Rattle.dnsv_reasons.specs.SourceSearch.{AreDenialsAt, EachFrom}
use Rattle.dnsv_reasons.proofs.sources.all_denials.Given as goal

-- those of each zone so far
abbrev pub invariant-loop-labels : goal.invariant-loop-labels
invariant-loop-labels l = (length l.zones.items ≡ l.labels) × EachFrom (AreDenialsAt l.question) 0 l.zones.items
