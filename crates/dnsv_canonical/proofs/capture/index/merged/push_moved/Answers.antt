use Rattle.std.proofs.Common.{◌∙◌, ◌++◌, ◌+◌, ◌-◌, sym, ap, arith}
use Rattle.std.proofs.lemmas.List.Folds.{map_fixed}
use Rattle.dnsv_canonical.proofs.capture.index.merged.push_moved.Goals as goal

pub returns-then-from-to : goal.returns-then-from-to
returns-then-from-to c =
    c.in_ok-extend_from_slice.ensures.items
    ∙ ap (λ places. c.args.starts.now.items ++ places)
    (sym (map_fixed (λ place. c.args.to + (place - c.args.from)) c.args.places.now (λ k d within. omega (arith, c.requires.behind k d within, c.if-from-to.true))))
