use Rattle.std.proofs.Common.{◌≡◌, ◌↔◌, IsTrue, not, subst, sym, ◌∙◌}
use Rattle.std.proofs.lemmas.Bool.{false≢true}
use Rattle.dnsv_names.specs.Name.{IsAtOrBelow, Labels}
use Rattle.dnsv_gaps.specs.Asking.{asking}
use Rattle.dnsv_gaps.specs.DenialSearch.{HasKnownBetween}
use Rattle.dnsv_gaps.specs.Denials.{IsStrayOf}
use Rattle.dnsv_gaps.proofs.AnswerLemmas.{not_so, so_not}
use Rattle.dnsv_gaps.proofs.DenialLemmas.{stray_not_between, stray_of}
use Rattle.dnsv_gaps.proofs.denials.is_stray_of.Goals as goal

pub returns-then-not-is_stray : goal.returns-then-not-is_stray
returns-then-not-is_stray c = (
  λ yes. absurd (false≢true yes),
  λ is. absurd (false≢true (sym c.if-not-is_stray.true ∙ c.is_stray.ensures.1 is.stray)),
)

pub returns-then-not-is_at_or_below : goal.returns-then-not-is_at_or_below
returns-then-not-is_at_or_below c =
    let At : Labels → Type 0 = λ owner. IsAtOrBelow owner c.args.zone.now in (
      λ yes. absurd (false≢true yes),
      λ is. absurd (false≢true (sym c.if-not-is_at_or_below.true
          ∙ c.is_at_or_below.ensures.at_or_below.1 (subst At (sym c.owner.ensures) is.below))),
    )

pub returns : goal.returns
returns c =
    let a = asking c.args.question.now in
    let owner = c.owner-2.result.now in
    let first : c.owner.result.now ≡ owner = c.owner.ensures ∙ sym c.owner-2.ensures in
    let Of : Labels → Type 0 = λ zone. IsTrue (not c.has_known_between.result) ↔ IsStrayOf a zone c.args.rrset.now in
    let At : Labels → Type 0 = λ zone. IsAtOrBelow owner zone in
    subst Of (sym c.requires.zone) (
      λ yes. stray_of a c.args.labels c.requires.within owner c.args.rrset.now (sym c.owner-2.ensures)
          (c.is_stray.ensures.0 c.if-not-is_stray.false)
          (subst At c.requires.zone (subst (λ (o : Labels). IsAtOrBelow o c.args.zone.now) first (c.is_at_or_below.ensures.at_or_below.0 c.if-not-is_at_or_below.false)))
          (not_so c.has_known_between.result (HasKnownBetween a c.args.labels owner) c.has_known_between.ensures yes),
      λ is. so_not c.has_known_between.result (HasKnownBetween a c.args.labels owner) c.has_known_between.ensures
          (stray_not_between a c.args.labels c.requires.within owner c.args.rrset.now (sym c.owner-2.ensures) is),
    )
