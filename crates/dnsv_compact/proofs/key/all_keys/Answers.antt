use Rattle.std.proofs.Common.{arith}
use Rattle.dnsv_compact.proofs.KeyLemmas.{keys_more}
use Rattle.dnsv_compact.proofs.key.all_keys.Goals as goal

pub loop-place-preserved : goal.loop-place-preserved
loop-place-preserved c =
    keys_more c.args.entries.now c.loop-place.place c.at.result _ _ c.key_of.result (omega (arith, c.loop-place-test.true, c.len-place-end.ensures)) c.at.ensures c.key_of.ensures c.in_ok-push.ensures.items
    c.loop-place.invariant
