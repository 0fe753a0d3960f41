use Rattle.std.proofs.Common.{ℕ, subst, refl, ◌∙◌}
use Rattle.dnsv_names.specs.Name.{rightmost}
use Rattle.dnsv_gaps.specs.Asking.{asking}
use Rattle.dnsv_gaps.specs.Parts.{AreFactsOf}
use Rattle.dnsv_gaps.specs.Unusable.{AreUnusable}
use Rattle.dnsv_gaps.specs.questions.Closers.{IsCover}
use Rattle.dnsv_gaps.proofs.question.closers.closer_facts.Goals as goal

pub returns : goal.returns
returns c =
    let a = asking c.args.question.now in
    let rrsig = c.args.rrsig.now in
    let same = c.in_ok-zone.ensures.labels ∙ c.labels.ensures.count in
    record {
      name = refl;
      covers = subst (λ (n : ℕ). AreFactsOf a.basis (IsCover a n rrsig.labels) c.in_ok-covers.covers.items) same c.in_ok-covers.ensures;
      unusable = subst (λ (n : ℕ). AreUnusable a (rightmost a.name n) c.in_ok-zone.zone.unusable.items) same c.in_ok-zone.ensures.denials.unusable;
    }
