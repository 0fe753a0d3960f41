use Rattle.std.proofs.Common.{ℕ, inl, inr, refl, subst, sym, ⊎_elim, ◌∙◌}
use Rattle.std.proofs.lemmas.Bool.{false≢true}
use Rattle.dnsv_gaps.specs.DenialSearch.{HasSpeaker, IsDenialType}
use Rattle.dnsv_gaps.specs.Denials.{IsStray}
use Rattle.dnsv_gaps.proofs.denials.is_denial.Goals as goal

pub returns-then-not-is_denial_type : goal.returns-then-not-is_denial_type
returns-then-not-is_denial_type c =
    let Denies : ℕ → Type 0 = IsDenialType in (
      λ yes. absurd (false≢true yes),
      λ is. absurd (false≢true (sym c.if-not-is_denial_type.true
          ∙ c.is_denial_type.ensures.1 (subst Denies (sym c.rtype.ensures) is.its_type))),
    )

pub returns-then-has_speaker : goal.returns-then-has_speaker
returns-then-has_speaker c =
    let Denies : ℕ → Type 0 = IsDenialType in (
      λ yes. record {
        its_type = subst Denies c.rtype.ensures (c.is_denial_type.ensures.0 c.if-not-is_denial_type.false);
        related = inl (c.has_speaker.ensures.0 c.if-has_speaker.true);
      },
      λ is. refl,
    )

pub returns : goal.returns
returns c =
    let Denies : ℕ → Type 0 = IsDenialType in (
      λ yes. record {
        its_type = subst Denies c.rtype.ensures (c.is_denial_type.ensures.0 c.if-not-is_denial_type.false);
        related = inr (c.is_stray.ensures.0 yes);
      },
      λ is. ⊎_elim
          (λ (speaks : HasSpeaker c.args.question.now.name.now c.args.question.now.rtype.0 c.args.rrset.now).
          absurd (false≢true (sym c.if-has_speaker.false ∙ c.has_speaker.ensures.1 speaks)))
          (λ (stray : IsStray c.args.rrset.now). c.is_stray.ensures.1 stray) is.related,
    )
