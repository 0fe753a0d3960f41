use Rattle.std.proofs.Common.{◌≡◌, ◌∙◌, ap, rules, sym}
use Rattle.std.proofs.lemmas.Map.Iter.{rest_more}
use Rattle.std.specs.Map.Iter.{deref_pair}
use Rattle.dnsv_denial.proofs.lemmas.gathering.ByZoneLemmas.{entry_found, entry_passed, numbers_in}
use Rattle.dnsv_denial.proofs.gathering.signers.numbers_of.Goals as goal

pub loop-entry-init : goal.loop-entry-init
loop-entry-init c =
    let given : c.into_iter-entry-iterator.result ≡ c.args.numbers.now.entries = search rules in ap (numbers_in c.args.zone.now) (sym given)

pub loop-entry-preserved : goal.loop-entry-preserved
loop-entry-preserved c =
    let zone = c.args.zone.now in
    let first = rest_more deref_pair c.loop-entry.entry-iterator c.next.new.self c.next.result c.in-Some.entry c.in-Some.is c.next.ensures.steps in
    c.loop-entry.invariant ∙ ap (numbers_in zone) first
    ∙ entry_passed zone (c.in-Some.entry.0.now, c.in-Some.entry.1.now) c.next.new.self (sym c.is_same.ensures ∙ c.if-is_same.false)

pub returns-then-is_same : goal.returns-then-is_same
returns-then-is_same c =
    let zone = c.args.zone.now in
    let first = rest_more deref_pair c.loop-entry.entry-iterator c.next.new.self c.next.result c.in-Some.entry c.in-Some.is c.next.ensures.steps in
    c.deref.ensures.value
    ∙ sym (c.loop-entry.invariant ∙ ap (numbers_in zone) first
    ∙ entry_found zone (c.in-Some.entry.0.now, c.in-Some.entry.1.now) c.next.new.self (sym c.is_same.ensures ∙ c.if-is_same.true))

pub returns : goal.returns
returns c = sym (c.loop-entry.invariant ∙ ap (numbers_in c.args.zone.now) c.in-None.ensures.steps.0)
