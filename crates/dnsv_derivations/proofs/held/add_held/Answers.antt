use Rattle.std.proofs.Common.{◌≡◌, ◌+◌, ℕ, length, arith, subst}
use Rattle.dnsv_derivations.specs.Explained.{setting_in}
use Rattle.dnsv_derivations.specs.Saying.{Adds}
use Rattle.dnsv_derivations.specs.derivations.HeldTo.{IsHeldBelow}
use Rattle.dnsv_derivations.proofs.lemmas.derivations.HeldLemmas.{more_held, none_held}
use Rattle.dnsv_derivations.proofs.held.add_held.Goals as goal

pub loop-count-init : goal.loop-count-init
loop-count-init c = none_held (setting_in c.args.evidence.now) c.args.name.now c.args.lines.now.items

pub loop-count-preserved : goal.loop-count-preserved
loop-count-preserved c =
    more_held (setting_in c.args.evidence.now) c.args.name.now c.suffix.result c.loop-count.count c.args.lines.now.items _ _
    c.suffix.ensures.labels c.loop-count.invariant c.in_ok-add_held_at.ensures

pub returns : goal.returns
returns c =
    let To : ℕ → Type 0 = λ count. Adds (IsHeldBelow (setting_in c.args.evidence.now) c.args.name.now count) c.args.lines.now.items
    c.loop-count.lines.items in
    let past = c.loop-count-test.false in
    let end = c.loop-count.auto.count-end in
    let size = c.labels-count-end.ensures.count in
    let all : c.loop-count.count ≡ length c.args.name.now + 1 = omega (arith, past, end, size) in
    subst To all c.loop-count.invariant
