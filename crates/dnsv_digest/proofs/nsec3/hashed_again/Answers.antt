use Rattle.std.proofs.Common.{arith, ◌≡◌, ◌++◌, length, ◌≤◌, ap, ◌∙◌, add-one}
use Rattle.std.proofs.lemmas.List.{length-take-le}
use Rattle.sha1.specs.Sha1.{sha1}
use Rattle.std.proofs.lemmas.Grind.{common_steps}
use Rattle.dnsv_digest.specs.Nsec3Hash.{iterated_hash}
use Rattle.dnsv_digest.proofs.DigestLemmas.{joined_with, StandsBehind-kept}
use Rattle.dnsv_digest.proofs.nsec3.hashed_again.Goals as goal

pub loop-init : goal.loop-init
unfolding iterated_hash
loop-init c = (λ x h. h, record { part = grind (arith, common_steps) })

pub loop-preserved : goal.loop-preserved
unfolding iterated_hash
loop-preserved c =
    let front = c.copy_from_slice-in-loop.new.self in
    let room : 20 ≤ length c.loop.joined = omega arith in
    let long : length front ≡ 20 = c.copy_from_slice-in-loop.ensures.len ∙ length-take-le 20 c.loop.joined room in
    let all : c.joined_hash-hash.result ≡ sha1 (front ++ c.args.salt.now)
    = c.joined_hash-hash.ensures ∙ ap sha1 (joined_with front c.loop.invariant.1 long) in (
      λ x first. rw add-one (all ∙ ap (λ hash. sha1 (hash ++ c.args.salt.now)) (c.copy_from_slice-in-loop.ensures.after ∙ c.loop.invariant.0 x first)),
      StandsBehind-kept front c.loop.invariant.1 long,
    )
