use Rattle.std.proofs.Common.{List, inl, inr, refl, subst, sym, ◌∙◌}
use Rattle.std.proofs.lemmas.Bool.{false≢true}
use Rattle.dnsv_names.specs.Name.{Labels}
use Rattle.dnsv_canonical.specs.Rrsets.{ReceivedRrset}
use Rattle.dnsv_faults.specs.KnownZones.{HasOwnAnchor}
use Rattle.dnsv_gaps.specs.questions.Cuts.{HasDsFromAbove}
use Rattle.dnsv_gaps.proofs.QuestionLemmas.CutLemmas.{opted_out_by_some, the_other, unsigned_by_some}
use Rattle.dnsv_gaps.proofs.question.cuts.shown.is_seen_unsigned.Goals as goal

pub returns-then-branch : goal.returns-then-branch
returns-then-branch c =
    let parent = c.args.parent.now in
    let question = parent.question.now in
    let Own : Labels → Type 0 = λ name. HasOwnAnchor question.facts.now.anchors name in
    let Of : Labels → Type 0 = λ name. HasDsFromAbove question.facts.now.rrsets name in
    let Among : List ReceivedRrset → Type 0 = λ rrsets. HasDsFromAbove rrsets c.suffix-cut.result in
    let its = c.rrsets.ensures.value ∙ c.capture.ensures in (
      λ yes. record {
        no_anchor = λ has. false≢true (sym c.if-has_own_anchor.false ∙ c.has_own_anchor.ensures.1
            (subst Own (sym c.suffix-cut.ensures.labels) has));
        no_ds = λ has. false≢true (sym c.if-has_ds_from_above.false ∙ c.has_ds_from_above.ensures.1
            (subst Among (sym its) (subst Of (sym c.suffix-cut.ensures.labels) has)));
        unsigned = inl ((unsigned_by_some question parent.labels parent.sources.now c.requires.parent.sources c.args.name).0
            (c.in_ok-is_said.ensures.0 c.if-branch.true));
      },
      λ is. refl,
    )

pub returns : goal.returns
returns c =
    let parent = c.args.parent.now in
    let question = parent.question.now in
    let Own : Labels → Type 0 = λ name. HasOwnAnchor question.facts.now.anchors name in
    let Of : Labels → Type 0 = λ name. HasDsFromAbove question.facts.now.rrsets name in
    let Among : List ReceivedRrset → Type 0 = λ rrsets. HasDsFromAbove rrsets c.suffix-cut.result in
    let its = c.rrsets.ensures.value ∙ c.capture.ensures in
    let by_some = opted_out_by_some question parent.labels parent.sources.now c.requires.parent.sources c.args.name in (
      λ yes. record {
        no_anchor = λ has. false≢true (sym c.if-has_own_anchor.false ∙ c.has_own_anchor.ensures.1
            (subst Own (sym c.suffix-cut.ensures.labels) has));
        no_ds = λ has. false≢true (sym c.if-has_ds_from_above.false ∙ c.has_ds_from_above.ensures.1
            (subst Among (sym its) (subst Of (sym c.suffix-cut.ensures.labels) has)));
        unsigned = inr (by_some.0 (c.in_ok-is_said-2.ensures.0 yes));
      },
      λ is. c.in_ok-is_said-2.ensures.1 (by_some.1 (the_other _ _ (λ typed. false≢true (sym c.if-branch.false ∙ c.in_ok-is_said.ensures.1
          ((unsigned_by_some question parent.labels parent.sources.now c.requires.parent.sources c.args.name).1 typed))) is.unsigned)),
    )
