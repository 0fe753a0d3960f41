use Rattle.std.proofs.Common.{List, ℕ, subst}
use Rattle.sha2.specs.Hashers.{Holds256}
use Rattle.dnsv_answers.proofs.DigestLemmas.{frames_more, framed_at}
use Rattle.dnsv_answers.proofs.digest.capture_digest.Goals as goal

pub loop-message-preserved : goal.loop-message-preserved
loop-message-preserved c = λ framed.
    subst (λ (octets : List ℕ). Holds256 c.add_message.new.hasher octets) (frames_more c.args.messages.now c.loop-message.message-index _ c.loop-message-test.true)
    (c.add_message.ensures (framed_at c.args.messages.now c.loop-message.message-index _ c.loop-message-test.true framed) _ (c.loop-message.invariant framed))
