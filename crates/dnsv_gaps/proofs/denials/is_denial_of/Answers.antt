use Rattle.std.proofs.Common.{inl, inr, refl, sym, ⊎_elim, ◌∙◌}
use Rattle.std.proofs.lemmas.Bool.{false≢true}
use Rattle.dnsv_gaps.specs.Asking.{asking}
use Rattle.dnsv_gaps.specs.Denials.{HasSigner, IsStrayOf}
use Rattle.dnsv_gaps.proofs.denials.is_denial_of.Goals as goal

pub returns-then-not-is_denial : goal.returns-then-not-is_denial
returns-then-not-is_denial c = (
  λ yes. absurd (false≢true yes),
  λ is. absurd (false≢true (sym c.if-not-is_denial.true ∙ c.is_denial.ensures.1 is.denial)),
)

pub returns-then-not-is_at_or_below : goal.returns-then-not-is_at_or_below
returns-then-not-is_at_or_below c = (
  λ yes. absurd (false≢true yes),
  λ is. absurd (false≢true (sym c.if-not-is_at_or_below.true ∙ c.is_at_or_below.ensures.at_or_below.1 (rw c.owner.ensures is.below))),
)

pub returns-then-has_signer : goal.returns-then-has_signer
returns-then-has_signer c = (
  λ yes. record { denial = c.is_denial.ensures.0 c.if-not-is_denial.false; below = rw (← c.owner.ensures) (c.is_at_or_below.ensures.at_or_below.0 c.if-not-is_at_or_below.false); its = inl (c.has_signer.ensures.0 c.if-has_signer.true) },
  λ is. refl,
)

pub returns : goal.returns
returns c = (
  λ yes. record { denial = c.is_denial.ensures.0 c.if-not-is_denial.false; below = rw (← c.owner.ensures) (c.is_at_or_below.ensures.at_or_below.0 c.if-not-is_at_or_below.false); its = inr (c.is_stray_of.ensures.0 yes) },
  λ is. ⊎_elim
      (λ (signer : HasSigner c.args.rrset.now c.args.zone.now).
      absurd (false≢true (sym c.if-has_signer.false ∙ c.has_signer.ensures.1 signer)))
      (λ (stray : IsStrayOf (asking c.args.question.now) c.args.zone.now c.args.rrset.now). c.is_stray_of.ensures.1 stray) is.its,
)
