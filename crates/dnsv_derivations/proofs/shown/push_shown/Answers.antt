use Rattle.std.proofs.Common.{List, sym, subst}
use Rattle.dnsv_verifier.proofs.AskLemmas.{adds_nothing, adds_one}
use Rattle.dnsv_verifier.specs.Asking.{AddsJust}
use Rattle.dnsv_derivations.specs.intervals.Holding.{ShowsTimes}
use Rattle.dnsv_derivations.specs.declared.interval.Times.{Times}
use Rattle.dnsv_derivations.proofs.lemmas.intervals.ShownLemmas.{none_shown, one_shown}
use Rattle.dnsv_derivations.proofs.shown.push_shown.Goals as goal

pub returns-in_default-times_of : goal.returns-in_default-times_of
returns-in_default-times_of c =
    adds_nothing (ShowsTimes c.args.rrsets.now c.args.line.now) c.args.times.now.items
    (none_shown c.args.rrsets.now c.args.line.now c.in-Some.number (sym c.in-Some.ensures) c.in_default-times_of.ensures)

pub returns : goal.returns
returns c =
    let Adds : List Times → Type 0 = λ all. AddsJust (ShowsTimes c.args.rrsets.now c.args.line.now) c.args.times.now.items all in
    subst Adds (sym c.in_ok-push.ensures.items)
    (adds_one (ShowsTimes c.args.rrsets.now c.args.line.now) c.args.times.now.items c.in-Some-times_of.found
    (c.in-Some.number, sym c.in-Some.ensures, c.in-Some-times_of.ensures)
    (λ each shows. one_shown c.args.rrsets.now c.args.line.now c.in-Some.number c.in-Some-times_of.found each (sym c.in-Some.ensures) c.in-Some-times_of.ensures shows))
