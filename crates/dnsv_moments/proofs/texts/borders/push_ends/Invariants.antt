use Rattle.std.proofs.Common.{◌≡◌, ◌++◌, map, take}
use Rattle.dnsv_moments.specs.texts.Borders.{ends_before, not_valid_at}
use Rattle.dnsv_moments.proofs.texts.borders.push_ends.Given as goal

abbrev pub invariant-loop-signature : goal.invariant-loop-signature
invariant-loop-signature l =
    l.all.items ≡ l.fn.all.items ++ map (ends_before l.from) (not_valid_at l.from (take l.signature-index l.before))
