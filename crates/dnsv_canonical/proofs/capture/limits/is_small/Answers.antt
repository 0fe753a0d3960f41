use Rattle.std.proofs.Common.{List, ℕ, map, length, sym, ap, ◌∙◌, arith}
use Rattle.std.proofs.lemmas.Bool.{eqb-true, not-false}
use Rattle.std.proofs.lemmas.List.{length-map}
use Rattle.std.specs.Borrow.{Bor}
use Rattle.dnsv_canonical.proofs.LimitLemmas.{small_by_keys}
use Rattle.dnsv_canonical.proofs.capture.limits.is_small.Goals as goal

pub returns : goal.returns
returns c =
    small_by_keys c.args.rrset.now (map (λ r. r.now) c.rdata.result.now) c.rdata.ensures
    (sym c.rtype.ensures ∙ eqb-true _ _ (not-false _ (sym c.ne.ensures ∙ c.if-ne.false)))
    (omega (arith, c.if-signatures-gt-SIGNATURE_LIMIT.false, ap length c.signatures.ensures, length-map c.signatures.result.now (λ (r : Bor (List ℕ)). r.now)))
    c.has_few_keys.result c.has_few_keys.ensures
