use Rattle.std.proofs.Common.{sym, ◌∙◌}
use Rattle.std.proofs.lemmas.Bool.{false≢true}
use Rattle.dnsv_gaps.proofs.QuestionLemmas.CutLemmas.{by_both, one_from_above}
use Rattle.dnsv_gaps.proofs.question.cuts.shown.is_ds_from_above.Goals as goal

pub returns-then-not-is_ds_of : goal.returns-then-not-is_ds_of
returns-then-not-is_ds_of c = (
  λ yes. absurd (false≢true yes),
  λ is. absurd (false≢true (sym c.if-not-is_ds_of.true ∙ c.is_ds_of.ensures.1 (is.its_type, is.owner))),
)

pub returns : goal.returns
returns c =
    let of = c.is_ds_of.ensures.0 c.if-not-is_ds_of.false in
    by_both _ _ _ c.has_signer_above.ensures
    (one_from_above c.args.rrset.now c.signatures.result.now c.signatures.ensures c.args.zone.now of.1 of.0)
