use Rattle.std.proofs.Common.{◌∙◌, arith}
use Rattle.dnsv_derivations.proofs.derivations.ways.kept.has_rdata.Goals as goal

pub returns-then-are_same : goal.returns-then-are_same
returns-then-are_same c = λ is.
    let before = c.loop-place-test.true in
    let end = c.loop-place.auto.place-end in
    let size = c.len-place-end.ensures.count in (
      c.loop-place.place,
      omega (arith, before, end, size),
      c.rdata.ensures.value c.args.rdata.now ∙ c.are_same.ensures.0 c.if-are_same.true,
    )
