use Rattle.std.proofs.Common.{List, [], sym, subst}
use Rattle.dnsv_verifier.specs.Asking.{CanSign, GivesEach, NumberedName}
use Rattle.dnsv_verifier.specs.Numbers.{IsNumberedKey}
use Rattle.dnsv_verifier.proofs.NumberedLemmas.{each_all, each_more, each_moved, each_none}
use Rattle.dnsv_verifier.proofs.ask.numbers.numbered_keys.Goals as goal

pub loop-key-init : goal.loop-key-init
loop-key-init c =
    subst (λ (numbered : List NumberedName). GivesEach (IsNumberedKey c.args.parts.now) CanSign [] numbered) (sym c.new-numbered.ensures.items)
    (each_none (IsNumberedKey c.args.parts.now) CanSign c.args.keys.now)

pub loop-key-preserved : goal.loop-key-preserved
loop-key-preserved c =
    each_more (IsNumberedKey c.args.parts.now) CanSign c.args.keys.now c.loop-key.key-index c.key-item.result _ _ c.loop-key-test.true c.key-item.is c.loop-key.invariant c.in_ok-add_key.ensures

pub returns : goal.returns
returns c =
    each_moved (IsNumberedKey c.args.parts.now) CanSign c.args.keys.now _ _ c.sort_unstable_by.ensures.permutation
    (each_all (IsNumberedKey c.args.parts.now) CanSign c.args.keys.now c.loop-key.key-index _ c.loop-key-test.false c.loop-key.invariant)
