use Rattle.std.proofs.Common.{ℕ, inl, inr, refl, subst, sym, ◌∙◌}
use Rattle.std.proofs.lemmas.Bool.{false≢true}
use Rattle.dnsv_names.specs.Name.{Labels, rightmost}
use Rattle.dnsv_faults.specs.KnownZones.{HasRrset}
use Rattle.dnsv_gaps.specs.Asking.{asking}
use Rattle.dnsv_gaps.specs.SourceSearch.{zone_in}
use Rattle.dnsv_gaps.proofs.QuestionLemmas.CutLemmas.{delegation_by_some, here_left_out, opted_out_by_some}
use Rattle.dnsv_gaps.proofs.question.cuts.shown.is_seen_here.Goals as goal

pub returns-then-branch : goal.returns-then-branch
returns-then-branch c =
    let parent = c.args.parent.now in (
      λ yes. inr (inr (inl ((delegation_by_some parent.question.now parent.labels parent.sources.now c.requires.parent.sources c.args.name).0
          (c.in_ok-is_said.ensures.0 c.if-branch.true)))),
      λ is. refl,
    )

pub returns-then-not-may_be_left_out : goal.returns-then-not-may_be_left_out
returns-then-not-may_be_left_out c =
    let parent = c.args.parent.now in
    let question = parent.question.now in
    let cut = rightmost question.name.now c.args.name in
    let Of : ℕ → Labels → Type 0 = λ rtype name. HasRrset question.facts.now.rrsets name rtype in (
      λ yes. absurd (false≢true yes),
      λ seen. absurd (false≢true (sym c.if-not-may_be_left_out.true ∙ c.may_be_left_out.ensures.1
          (here_left_out (asking question) (zone_in question parent.labels) parent.next cut
          (λ has. false≢true (sym c.if-has_rrset.false ∙ c.has_rrset.ensures.1 (subst (Of 2) (sym c.suffix-cut.ensures.labels) has)))
          (λ has. false≢true (sym c.if-has_rrset-2.false ∙ c.has_rrset-2.ensures.1 (subst (Of 6) (sym c.suffix-cut.ensures.labels) has)))
          (λ is. false≢true (sym c.if-branch.false ∙ c.in_ok-is_said.ensures.1
          ((delegation_by_some parent.question.now parent.labels parent.sources.now c.requires.parent.sources c.args.name).1 is)))
          seen).0)),
    )

pub returns : goal.returns
returns c =
    let parent = c.args.parent.now in
    let question = parent.question.now in
    let cut = rightmost question.name.now c.args.name in
    let by_some = opted_out_by_some question parent.labels parent.sources.now c.requires.parent.sources c.args.name in
    let Of : ℕ → Labels → Type 0 = λ rtype name. HasRrset question.facts.now.rrsets name rtype in (
      λ yes. inr (inr (inr (c.may_be_left_out.ensures.0 c.if-not-may_be_left_out.false, by_some.0 (c.in_ok-is_said-2.ensures.0 yes)))),
      λ seen. c.in_ok-is_said-2.ensures.1 (by_some.1
          (here_left_out (asking question) (zone_in question parent.labels) parent.next cut
          (λ has. false≢true (sym c.if-has_rrset.false ∙ c.has_rrset.ensures.1 (subst (Of 2) (sym c.suffix-cut.ensures.labels) has)))
          (λ has. false≢true (sym c.if-has_rrset-2.false ∙ c.has_rrset-2.ensures.1 (subst (Of 6) (sym c.suffix-cut.ensures.labels) has)))
          (λ is. false≢true (sym c.if-branch.false ∙ c.in_ok-is_said.ensures.1
          ((delegation_by_some parent.question.now parent.labels parent.sources.now c.requires.parent.sources c.args.name).1 is)))
          seen).1),
    )
