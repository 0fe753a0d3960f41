use Rattle.std.proofs.Common.{rules}
use Rattle.std.specs.Prelude.{IsTrue}
use Rattle.dnsv_records.specs.Algorithm.{is_supported}
use Rattle.dnsv_chain.proofs.MatchingLemmas.{none_matches, usable_matches}
use Rattle.dnsv_chain.proofs.matching.has_usable_match.Goals as goal

pub returns-in-None : goal.returns-in-None
returns-in-None c =
    (λ yes. cc, λ has. absurd (none_matches c.args.owner.now c.args.records.now c.args.key.now c.in-None.ensures has))

pub returns-in-Some : goal.returns-in-Some
returns-in-Some c =
    let supported : IsTrue (is_supported c.args.key.now.dnskey.algorithm.0) = search rules in
    let both = usable_matches c.args.owner.now c.args.records.now c.args.key.now c.in-Some.leading.0 c.in-Some.ensures supported in
    (λ yes. both.0 (c.has_leading_match.ensures.0 yes), λ has. c.has_leading_match.ensures.1 (both.1 has))
