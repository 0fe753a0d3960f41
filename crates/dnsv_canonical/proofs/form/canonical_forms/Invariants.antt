use Rattle.std.proofs.Common.{◌≡◌, take, map}
use Rattle.dnsv_canonical.specs.CanonicalRdata.{canonical_form}
use Rattle.dnsv_canonical.proofs.form.canonical_forms.Given as goal

-- the forms of the RDATA so far
abbrev pub invariant-loop-rdata : goal.invariant-loop-rdata
invariant-loop-rdata l =
    map (λ form. form.items) l.forms.items ≡ map (canonical_form l.rtype.0) (map (λ r. r.now) (take l.rdata-index l.received))
