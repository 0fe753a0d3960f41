-- What is kept of two ways.
use Rattle.std.proofs.Common.{◌≡◌, Option, Some, None, true, false, if◌then◌else◌, ap, sym, refl}
use Rattle.std.proofs.lemmas.Bool.{false≢true}
use Rattle.dnsv_remedies.specs.Remedy.{Remedied, better, is_better}

-- a way that is better than what is kept, and one that isn't
pub better_taken : (best : Option Remedied) (m : Remedied) → is_better m.price best ≡ true → better best m ≡ m
better_taken None m h = refl
better_taken (Some kept) m h = ap (λ b. if b then m else kept) h

pub better_kept : (best : Option Remedied) (m : Remedied) → is_better m.price best ≡ false → Some (better best m) ≡ best
better_kept None m h = absurd (false≢true (sym h))
better_kept (Some kept) m h = ap (λ b. Some (if b then m else kept)) h
