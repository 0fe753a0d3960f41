use Rattle.std.proofs.Common.{◌∙◌, refl, sym}
use Rattle.std.proofs.lemmas.Bool.{false≢true}
use Rattle.dnsv_derivations.specs.Explained.{setting_in}
use Rattle.dnsv_derivations.proofs.lemmas.derivations.HeldLemmas.{first_added, none_first_added, none_more, none_trusted}
use Rattle.dnsv_derivations.proofs.held.add_first.Goals as goal

pub loop-number-init : goal.loop-number-init
loop-number-init c = record { none = none_trusted (setting_in c.args.evidence.now) c.args.numbers.now; same = refl }

pub loop-number-preserved : goal.loop-number-preserved
loop-number-preserved c = record {
  none = none_more (setting_in c.args.evidence.now) c.args.numbers.now c.loop-number.number-index
      (λ trusted. false≢true (sym c.if-branch.false ∙ c.in_ok-is_trusted.ensures.1 trusted)) c.loop-number.invariant.none;
  same = c.loop-number.invariant.same;
}

pub derive_keys-requires : goal.derive_keys-requires
derive_keys-requires c = c.in_ok-is_trusted.ensures.0 c.if-branch.true

pub returns-then-branch : goal.returns-then-branch
returns-then-branch c =
    first_added (setting_in c.args.evidence.now) c.args.numbers.now c.loop-number.number-index c.args.lines.now.items
    c.loop-number.lines.items c.deref.result.now c.in_ok-more.more.items _ c.loop-number-test.true c.loop-number.invariant.none
    c.loop-number.invariant.same c.deref.ensures.value (c.in_ok-is_trusted.ensures.0 c.if-branch.true) c.in_ok-more.ensures
    c.in_ok-append.ensures.items

pub returns : goal.returns
returns c =
    none_first_added (setting_in c.args.evidence.now) c.args.numbers.now c.loop-number.number-index c.args.lines.now.items
    c.loop-number.lines.items c.loop-number-test.false c.loop-number.invariant.none c.loop-number.invariant.same
