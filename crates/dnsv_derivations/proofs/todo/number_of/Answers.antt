use Rattle.std.proofs.Common.{arith, sym, ◌∙◌}
use Rattle.std.proofs.lemmas.Bool.{false≢true}
use Rattle.dnsv_verifier.specs.Admissible.{entry_over}
use Rattle.dnsv_derivations.proofs.lemmas.TodoLemmas.{entry_is, entry_parts, is_here, none_more, none_yet, not_among}
use Rattle.dnsv_derivations.proofs.todo.number_of.Goals as goal

pub loop-place-init : goal.loop-place-init
loop-place-init c = none_yet c.args.entries.now (entry_over c.args.rrsig.now c.args.octets.now c.args.key.now)

pub loop-place-preserved : goal.loop-place-preserved
loop-place-preserved c =
    none_more c.args.entries.now (entry_over c.args.rrsig.now c.args.octets.now c.args.key.now) c.loop-place.place c.at.result
    c.at.ensures
    (λ is. false≢true (sym c.if-is_entry.false
    ∙ c.is_entry.ensures.1 (entry_parts c.at.result c.args.rrsig.now c.args.key.now c.args.octets.now is)))
    c.loop-place.invariant

pub returns-then-is_entry : goal.returns-then-is_entry
returns-then-is_entry c =
    let before = c.loop-place-test.true in
    let end = c.loop-place.auto.place-end in
    let size = c.len-place-end.ensures in
    is_here c.args.entries.now (entry_over c.args.rrsig.now c.args.octets.now c.args.key.now) c.loop-place.place c.at.result
    (omega (arith, before, end, size)) c.at.ensures
    (entry_is c.at.result c.args.rrsig.now c.args.key.now c.args.octets.now (c.is_entry.ensures.0 c.if-is_entry.true))

pub returns : goal.returns
returns c =
    let past = c.loop-place-test.false in
    let end = c.loop-place.auto.place-end in
    let size = c.len-place-end.ensures in
    not_among c.args.entries.now (entry_over c.args.rrsig.now c.args.octets.now c.args.key.now) c.loop-place.place
    (omega (arith, past, end, size)) c.loop-place.invariant
