use Rattle.std.proofs.Common.{◌∙◌, ◌&&◌, ◌<◌, ap, arith, nat_eq, get_or, length}
use Rattle.dnsv_tsig.proofs.AnswerLemmas.{same_more}
use Rattle.dnsv_tsig.proofs.mac.begins_mac.Goals as goal

pub loop-i-preserved : goal.loop-i-preserved
loop-i-preserved c =
    let mac = c.args.mac.now in
    let right = c.args.right.now in
    let in_mac : c.loop-i.i < length mac = omega arith in
    let in_right : c.loop-i.i < length right = omega (arith, c.told-right) in
    ap (λ so_far. so_far && nat_eq (get_or mac c.loop-i.i 0) (get_or right c.loop-i.i 0)) c.loop-i.invariant
    ∙ same_more mac right c.loop-i.i in_mac in_right
