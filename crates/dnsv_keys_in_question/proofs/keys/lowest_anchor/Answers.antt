use Rattle.std.proofs.Common.{sym, ◌∙◌, length}
use Rattle.std.proofs.lemmas.Bool.{false≢true}
use Rattle.dnsv_derivations.specs.Explained.{setting_in}
use Rattle.dnsv_keys_in_question.specs.KeyLines.{IsMatchedByAnchor}
use Rattle.dnsv_derivations.proofs.lemmas.NumberedLemmas.{all_passed, numbered_at}
use Rattle.dnsv_keys_in_question.proofs.lemmas.LowestLemmas.{found, none_first, none_found, none_next}
use Rattle.dnsv_keys_in_question.proofs.lemmas.ShownKeyLemmas.{anchor_counted, anchor_never, anchor_within}
use Rattle.dnsv_keys_in_question.proofs.keys.lowest_anchor.Goals as goal

pub loop-place-init : goal.loop-place-init
loop-place-init c =
    let setting = setting_in c.args.evidence.now in
    none_first (IsMatchedByAnchor setting c.args.key.now) (anchor_counted setting c.args.key.now)

pub loop-place-preserved : goal.loop-place-preserved
loop-place-preserved c =
    let setting = setting_in c.args.evidence.now in
    let key = c.args.key.now in
    let numbered = numbered_at c.args.evidence.now.anchors c.anchors-anchor-items.result.now c.loop-place.place c.anchor-item.result
    c.anchors-anchor-items.ensures c.loop-place-test.true c.anchor-item.is in
    none_next (IsMatchedByAnchor setting key) c.loop-place.place
    (anchor_never setting key c.loop-place.place c.anchor-item.result numbered
    (λ matches. false≢true (sym c.if-is_anchor_match.false ∙ c.is_anchor_match.ensures.1 matches)))
    c.loop-place.invariant

pub returns-then-is_anchor_match : goal.returns-then-is_anchor_match
returns-then-is_anchor_match c =
    let numbered = numbered_at c.args.evidence.now.anchors c.anchors-anchor-items.result.now c.loop-place.place c.anchor-item.result
    c.anchors-anchor-items.ensures c.loop-place-test.true c.anchor-item.is in
    found (IsMatchedByAnchor (setting_in c.args.evidence.now) c.args.key.now) c.loop-place.place
    (c.anchor-item.result, numbered, c.is_anchor_match.ensures.0 c.if-is_anchor_match.true) c.loop-place.invariant

pub returns : goal.returns
returns c =
    let setting = setting_in c.args.evidence.now in
    none_found (IsMatchedByAnchor setting c.args.key.now) c.loop-place.place (length setting.anchors) (anchor_within setting c.args.key.now)
    (all_passed c.args.evidence.now.anchors c.anchors-anchor-items.result.now c.loop-place.place c.anchors-anchor-items.ensures
    c.loop-place-test.false)
    c.loop-place.invariant
