use Rattle.std.proofs.Common.{subst, sym, ◌∙◌}
use Rattle.std.proofs.lemmas.Bool.{false≢true}
use Rattle.dnsv_names.specs.Name.{Labels}
use Rattle.dnsv_chain.specs.Basis.{HasAnchor}
use Rattle.dnsv_gaps.proofs.question.cuts.is_parent.Goals as goal

pub returns-then-not-is_known : goal.returns-then-not-is_known
returns-then-not-is_known c = (
  λ yes. absurd (false≢true yes),
  λ is. absurd (false≢true (sym c.if-not-is_known.true ∙ c.is_known.ensures.1 is.known)),
)

pub returns : goal.returns
returns c =
    let At : Labels → Type 0 = λ name. HasAnchor c.args.question.now.facts.now.anchors name in (
      λ yes. record {
        within = c.requires.within;
        known = c.is_known.ensures.0 c.if-not-is_known.false;
        anchored = subst At c.suffix.ensures.labels (c.has_anchor.ensures.0 yes);
      },
      λ is. c.has_anchor.ensures.1 (subst At (sym c.suffix.ensures.labels) is.anchored),
    )
