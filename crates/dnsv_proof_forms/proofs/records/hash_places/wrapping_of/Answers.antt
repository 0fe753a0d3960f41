use Rattle.std.proofs.Common.{refl, length, arith, sym, ◌∙◌}
use Rattle.std.proofs.lemmas.Option.{slice_get_read}
use Rattle.dnsv_proof_forms.proofs.lemmas.records.HashPlaceLemmas.{all_wrap, ends_behind, none_wrap, one_passed, one_wraps}
use Rattle.dnsv_proof_forms.proofs.records.hash_places.wrapping_of.Goals as goal
use Rattle.dnsv_proof_forms.proofs.records.hash_places.wrapping_of.Goals.{then-le+in_ok-push, else-le}

pub loop-each-init : goal.loop-each-init
loop-each-init c = rw c.new-wrapping.ensures.items (none_wrap c.args.places.now)

pub loop-each-preserved : goal.loop-each-preserved
loop-each-preserved c =
    let there = slice_get_read c.args.places.now (length c.args.places.now) c.loop-each.each-index c.each-item.result refl c.loop-each-test.true c.each-item.is in
    elim c.if-le.branch [
      | then-le+in_ok-push w ↦ rw (w.wrapping-is, w.in_ok-push.ensures.items)
          (one_wraps c.args.places.now c.loop-each.each-index c.loop-each.wrapping.items c.each-item.result there c.loop-each.invariant)
      | else-le w ↦ rw w.wrapping-is
          (one_passed c.args.places.now c.loop-each.each-index c.loop-each.wrapping.items c.each-item.result there
          (ends_behind c.each-item.result.next c.each-item.result.hash (sym c.le.ensures ∙ w.if-le.false)) c.loop-each.invariant)
    ]

pub returns : goal.returns
returns c = all_wrap c.args.places.now c.loop-each.each-index c.loop-each.wrapping.items (omega (arith, c.loop-each-test.false)) c.loop-each.invariant
