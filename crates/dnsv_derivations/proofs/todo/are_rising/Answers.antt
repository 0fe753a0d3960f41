use Rattle.std.proofs.Common.{arith, refl}
use Rattle.std.proofs.lemmas.Bool.{false≢true}
use Rattle.dnsv_derivations.proofs.lemmas.RisingLemmas.{rising_all, rising_more, rising_next, rising_none}
use Rattle.dnsv_derivations.proofs.todo.are_rising.Goals as goal

pub loop-place-init : goal.loop-place-init
loop-place-init c = (omega arith, rising_none c.args.entries.now)

pub loop-place-preserved : goal.loop-place-preserved
loop-place-preserved c =
    let before = c.loop-place-test.true in
    let end = c.loop-place.auto.place-end in
    let size = c.len-place-end.ensures in
    let some = c.loop-place.invariant.0 in (
      omega arith,
      rising_more c.args.entries.now c.loop-place.place c.at.result c.at-in-loop-place.result some
          (omega (arith, before, end, size)) c.at.ensures c.at-in-loop-place.ensures
          (c.is_less.ensures.0 c.if-not-is_less.false) c.loop-place.invariant.1,
    )

pub returns-then-not-is_less : goal.returns-then-not-is_less
returns-then-not-is_less c =
    let before = c.loop-place-test.true in
    let end = c.loop-place.auto.place-end in
    let size = c.len-place-end.ensures in
    let some = c.loop-place.invariant.0 in (
      λ yes. absurd (false≢true yes),
      λ rising.
          let less =
          rising_next c.args.entries.now c.loop-place.place c.at.result c.at-in-loop-place.result some
          (omega (arith, before, end, size)) c.at.ensures c.at-in-loop-place.ensures rising in
          let fails = c.is_less.ensures.1 less in
          let told = c.if-not-is_less.true in absurd (cc),
    )

pub returns : goal.returns
returns c =
    let past = c.loop-place-test.false in
    let end = c.loop-place.auto.place-end in
    let size = c.len-place-end.ensures in (
      λ _. rising_all c.args.entries.now c.loop-place.place (omega (arith, past, end, size)) c.loop-place.invariant.1,
      λ _. refl,
    )
