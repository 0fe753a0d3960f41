use Rattle.std.proofs.Common.{◌≡◌, drop, map}
use Rattle.std.specs.List.{list_any}
use Rattle.dnsv_mending.specs.Level.{seen_level}
use Rattle.dnsv_remedies.specs.Cuts.{is_proving}
use Rattle.dnsv_remedies.proofs.cuts.is_proved.Given as goal

-- none so far
abbrev pub invariant-loop-source : goal.invariant-loop-source
invariant-loop-source l = list_any (is_proving (map seen_level l.levels) l.zone l.name) (drop l.source-index l.sources)
    ≡ list_any (is_proving (map seen_level l.levels) l.zone l.name) l.sources
