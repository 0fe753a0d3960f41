use Rattle.std.proofs.Common.{List, sym, subst}
use Rattle.dnsv_verifier.proofs.AskLemmas.{adds_one}
use Rattle.dnsv_verifier.specs.Asking.{AddsJust}
use Rattle.dnsv_moments.specs.Shown.{Shows}
use Rattle.dnsv_moments.specs.declared.shown.Shown.{Shown}
use Rattle.dnsv_moments.proofs.ShownLemmas.{one_shown}
use Rattle.dnsv_moments.proofs.shown.push_shown.Goals as goal

pub returns : goal.returns
returns c =
    let number = c.in-Some.number in
    let x : Shown = record { rrset = number.rrset; signature = number.signature } in
    let Adds : List Shown → Type 0 = λ all. AddsJust (Shows c.args.line.now) c.args.shown.now.items all in
    subst Adds (sym c.in_ok-push.ensures.items)
    (adds_one (Shows c.args.line.now) c.args.shown.now.items x (sym c.in-Some.ensures)
    (λ each shows. one_shown c.args.line.now number each c.in-Some.ensures shows))
