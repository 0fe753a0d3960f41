use Rattle.std.proofs.Common.{arith, sym, ◌∙◌}
use Rattle.dnsv_verifier.specs.EntryLaws.{entry_Equal}
use Rattle.dnsv_derivations.proofs.lemmas.RisingLemmas.{above_middle, anywhere, below_middle, nowhere}
use Rattle.dnsv_derivations.proofs.lemmas.TodoLemmas.{is_here}
use Rattle.dnsv_derivations.proofs.todo.number_by_halves.Goals as goal

pub loop-low-init : goal.loop-low-init
loop-low-init c = anywhere c.args.entries.now c.args.wanted.now c.len-high.result c.len-high.ensures

pub returns : goal.returns
returns c =
    let past = c.loop-low-test.false in
    nowhere c.args.entries.now c.args.wanted.now c.loop-low.low c.loop-low.high (omega (arith, past)) c.loop-low.invariant

pub loop-low-preserved-in-Less : goal.loop-low-preserved-in-Less
loop-low-preserved-in-Less c =
    above_middle c.args.entries.now c.args.wanted.now c.requires c.loop-low.low c.loop-low.high _ c.at.result
    (omega (arith, c.loop-low-test.true)) c.at.ensures (sym c.cmp.ensures ∙ c.in-Less.is) c.loop-low.invariant

pub loop-low-preserved : goal.loop-low-preserved
loop-low-preserved c =
    below_middle c.args.entries.now c.args.wanted.now c.requires c.loop-low.low c.loop-low.high _ c.at.result
    (omega (arith, c.loop-low-test.true)) (omega (arith, c.loop-low-test.true)) c.at.ensures (sym c.cmp.ensures ∙ c.in-Greater.is)
    c.loop-low.invariant

pub returns-in-Equal : goal.returns-in-Equal
returns-in-Equal c =
    let top = c.loop-low.invariant.within in
    is_here c.args.entries.now c.args.wanted.now _ c.at.result (omega (arith, c.loop-low-test.true, top)) c.at.ensures
    (entry_Equal c.at.result c.args.wanted.now (sym c.cmp.ensures ∙ c.in-Equal.is))
