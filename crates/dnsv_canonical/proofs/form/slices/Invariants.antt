use Rattle.std.proofs.Common.{◌≡◌, take, map}
use Rattle.dnsv_canonical.proofs.form.slices.Given as goal

-- the octets of the vectors so far
abbrev pub invariant-loop-form : goal.invariant-loop-form
invariant-loop-form l = map (λ r. r.now) l.slices.items ≡ map (λ form. form.items) (take l.form-index l.forms)
