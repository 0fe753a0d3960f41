use Rattle.std.proofs.Common.{◌≡◌, ℕ, refl}
use Rattle.dnsv_verifier.proofs.AskLemmas.{adds_one}
use Rattle.dnsv_faults.proofs.lemmas.KnownLemmas.{adds_there}
use Rattle.dnsv_faults.proofs.known.speakers.add_number.Goals as goal

pub returns-then-is_among : goal.returns-then-is_among
returns-then-is_among c =
    adds_there c.args.numbers.now.items c.args.number c.deref.result.now c.deref.ensures.value (c.is_among.ensures.0 c.if-is_among.true)

pub returns : goal.returns
returns c =
    rw c.in_ok-push.ensures.items
    (adds_one (λ (n : ℕ). n ≡ c.args.number) c.args.numbers.now.items c.args.number refl (λ n same. same))
