use Rattle.std.proofs.Common.{sym, ◌∙◌}
use Rattle.std.proofs.lemmas.Bool.{false≢true}
use Rattle.dnsv_names.proofs.Base64Lemmas.{group_in_front, group_more, last_group}
use Rattle.dnsv_names.proofs.lines.base64_field.is_base64.Goals as goal

pub loop-rest-preserved : goal.loop-rest-preserved
loop-rest-preserved c =
    let more = group_more c.loop-rest.rest.now c.split_at.result.0.now c.split_at.result.1.now c.loop-rest-test.true c.split_at.ensures.front c.split_at.ensures.back (c.says_three.ensures.0 c.if-not-says_three.false) in
    (λ field. more.0 (c.loop-rest.invariant.0 field), λ behind. c.loop-rest.invariant.1 (more.1 behind))

pub returns-then-not-says_three : goal.returns-then-not-says_three
returns-then-not-says_three c = (
  λ yes. absurd (false≢true yes),
  λ field. absurd (false≢true (sym c.if-not-says_three.true ∙ c.says_three.ensures.1
      (group_in_front c.loop-rest.rest.now c.split_at.result.0.now c.loop-rest-test.true c.split_at.ensures.front (c.loop-rest.invariant.0 field)))),
)

pub returns : goal.returns
returns c =
    let last = last_group c.octets_said.result c.is_some.result c.loop-rest.rest.now c.is_some.ensures c.octets_said.ensures.said c.octets_said.ensures.every in
    (λ yes. c.loop-rest.invariant.1 (last.0 yes), λ field. last.1 (c.loop-rest.invariant.0 field))
