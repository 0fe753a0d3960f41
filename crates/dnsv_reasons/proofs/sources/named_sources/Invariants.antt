use Rattle.std.proofs.Common.{◌≡◌, length}
use Rattle.dnsv_gaps.specs.Asking.{asking}
use Rattle.dnsv_reasons.specs.SourceSearch.{AreNamed, EachFrom}
use Rattle.dnsv_reasons.proofs.sources.named_sources.Given as goal

-- those of each zone so far
abbrev pub invariant-loop-zone : goal.invariant-loop-zone
invariant-loop-zone l = (length l.named.items ≡ l.zone-index) × EachFrom (AreNamed (asking l.question)) 0 l.named.items
