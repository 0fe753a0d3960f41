use Rattle.std.proofs.Common.{refl, subst, sym, ◌∙◌}
use Rattle.std.proofs.lemmas.Bool.{false≢true}
use Rattle.dnsv_names.specs.Name.{Labels}
use Rattle.dnsv_names.specs.Order.{IsBelow}
use Rattle.dnsv_gaps.proofs.denials.is_known_above.Goals as goal

pub returns-then-not-is_known : goal.returns-then-not-is_known
returns-then-not-is_known c = (
  λ yes. absurd (false≢true yes),
  λ is. absurd (false≢true (sym c.if-not-is_known.true ∙ c.is_known.ensures.1 is.known)),
)

pub returns : goal.returns
returns c =
    let Below : Labels → Type 0 = IsBelow c.args.owner.now in (
      λ yes. record {
        known = c.is_known.ensures.0 c.if-not-is_known.false;
        above = subst Below c.suffix.ensures.labels ((c.is_above.ensures.0 yes).properly refl);
      },
      λ is.
          let below = subst Below (sym c.suffix.ensures.labels) is.above in
          c.is_above.ensures.1 (record { at = below.0; properly = λ always. below }),
    )
