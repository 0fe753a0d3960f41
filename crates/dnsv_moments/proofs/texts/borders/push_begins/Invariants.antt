use Rattle.std.proofs.Common.{◌≡◌, ◌++◌, ◌-◌, map, take}
use Rattle.dnsv_moments.specs.texts.Borders.{begins_at, not_valid_at}
use Rattle.dnsv_moments.proofs.texts.borders.push_begins.Given as goal

abbrev pub invariant-loop-signature : goal.invariant-loop-signature
invariant-loop-signature l =
    l.all.items ≡ l.fn.all.items ++ map (begins_at l.from) (not_valid_at (l.from - 1) (take l.signature-index l.by))
