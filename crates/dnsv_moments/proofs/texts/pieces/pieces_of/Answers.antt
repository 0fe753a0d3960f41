use Rattle.std.proofs.Common.{◌≡◌, ◌+◌, ◌∷◌, ◌∙◌, List, ap, drop, subst, sym}
use Rattle.std.proofs.lemmas.List.{drop_all, drop_more, get_or_read}
use Rattle.dnsv_timeline.specs.declared.stretch.Stretch.{Stretch}
use Rattle.dnsv_moments.specs.validity.Said.{Said}
use Rattle.dnsv_moments.specs.texts.Pieces.{ArePieces, Piece}
use Rattle.dnsv_moments.proofs.lemmas.texts.PieceLemmas.{all_pieces, first_piece, next_piece}
use Rattle.dnsv_moments.proofs.texts.pieces.pieces_of.Goals as goal

pub loop-stretch-init : goal.loop-stretch-init
loop-stretch-init c =
    first_piece c.args.capture.now.rrsets c.args.kinds c.args.stretches.now c.in-Some.others.now c.in-Some.first.now c.new-pieces.result.items
    c.new.result.items c.begun-piece.result c.in-Some.ensures.cases.0 c.new-pieces.ensures.items c.new.ensures.items c.begun-piece.ensures

pub loop-stretch-preserved : goal.loop-stretch-preserved
loop-stretch-preserved c =
    let others = c.in-Some.others.now in
    let i = c.loop-stretch.stretch-index in
    let stretch = c.stretch-item.result in
    let here : drop i others ≡ stretch ∷ drop (i + 1) others =
    drop_more others i stretch c.loop-stretch-test.true
    ∙ ap (λ (each : Stretch Said). each ∷ drop (i + 1) others)
    (sym (get_or_read others i stretch c.loop-stretch-test.true c.stretch-item.is stretch)) in
    next_piece c.args.capture.now.rrsets c.args.kinds c.args.stretches.now others i stretch c.loop-stretch.pieces.items c.next.new.pieces.items
    c.loop-stretch.piece c.in_ok-piece.piece here c.loop-stretch.invariant c.in_ok-piece.ensures

pub returns : goal.returns
returns c =
    subst (λ (each : List Piece). ArePieces c.args.capture.now.rrsets c.args.kinds c.args.stretches.now each) (sym c.in_ok-push.ensures.items)
    (all_pieces c.args.capture.now.rrsets c.args.kinds c.args.stretches.now c.in-Some.others.now c.loop-stretch.stretch-index
    c.loop-stretch.pieces.items c.loop-stretch.piece (drop_all c.loop-stretch.stretch-index c.in-Some.others.now c.loop-stretch-test.false)
    c.loop-stretch.invariant)
