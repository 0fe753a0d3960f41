use Rattle.std.proofs.Common.{subst}
use Rattle.std.proofs.lemmas.Result.{on_ok_weaker}
use Rattle.dnsv_verifier.specs.Asking.{AddsJust, ComesOfSome}
use Rattle.dnsv_verifier.specs.Numbers.{IsPairOf}
use Rattle.dnsv_verifier.proofs.NumberedLemmas.{pairs_named}
use Rattle.dnsv_verifier.proofs.ask.numbers.add_pairs.Goals as goal

pub returns : goal.returns
returns c =
    on_ok_weaker c.push_pairs.result
    (λ adds. pairs_named c.args.key.now c.args.signatures.now c.with_name.result.now c.with_name.ensures.among c.with_name.ensures.named c.with_name.ensures.all _ _
    (subst (λ number. AddsJust (ComesOfSome (IsPairOf number) c.with_name.result.now) c.args.numbers.now.items c.push_pairs.new.numbers.items) c.number.ensures adds))
    c.push_pairs.ensures
