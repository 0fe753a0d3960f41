use Rattle.dnsv_anchors.proofs.UsableLemmas.{none_usable, usable_ones}
use Rattle.dnsv_anchors.proofs.usable.has_usable.Goals as goal

pub returns-in-Some : goal.returns-in-Some
returns-in-Some c =
    let both = usable_ones c.args.records.now c.in-Some.leading.0 c.in-Some.ensures in
    (λ yes. both.0 (c.has_supported.ensures.0 yes), λ has. c.has_supported.ensures.1 (both.1 has))

pub returns-in-None : goal.returns-in-None
returns-in-None c = (λ yes. cc, λ has. absurd (none_usable c.args.records.now c.in-None.ensures has))
