use Rattle.std.proofs.Common.{inl, inr, refl, sym, ◌∙◌}
use Rattle.std.proofs.lemmas.Bool.{false≢true}
use Rattle.dnsv_gaps.proofs.question.cuts.add_parent.Goals as goal

pub returns-then-not-is_parent : goal.returns-then-not-is_parent
returns-then-not-is_parent c = inr (λ is. false≢true (sym c.if-not-is_parent.true ∙ c.is_parent.ensures.1 is), refl)

pub returns : goal.returns
returns c = inl (c.is_parent.ensures.0 c.if-not-is_parent.false, (c.in_ok-parent.parent, c.in_ok-parent.ensures, c.in_ok-push.ensures.items))
