use Rattle.std.proofs.Common.{sym}
use Rattle.dnsv_chain.proofs.MatchingLemmas.{by_digest}
use Rattle.dnsv_chain.proofs.matching.has_leading_match.Goals as goal

pub returns-in-Some : goal.returns-in-Some
returns-in-Some c =
    let owner = c.is_owner.ensures.0 c.if-not-is_owner.false in
    let both = by_digest c.args.owner.now c.args.records.now c.args.digest_type.0 c.args.key.now c.in-Some.digest (sym c.in-Some.ensures) owner in
    (λ yes. both.0 (c.has_named_digest.ensures.0 yes), λ has. c.has_named_digest.ensures.1 (both.1 has))
