use Rattle.std.proofs.Common.{◌≡◌, map, take}
use Rattle.dnsv_gaps.specs.SourceSearch.{held_chain}
use Rattle.dnsv_reasons.specs.SourceSearch.{chain_named}
use Rattle.dnsv_reasons.proofs.sources.names_of.Given as goal

-- those so far
abbrev pub invariant-loop-source : goal.invariant-loop-source
invariant-loop-source l = map chain_named l.named.items ≡ map held_chain (take l.source-index l.held)
