use Rattle.std.proofs.Common.{◌≡◌, List, subst}
use Rattle.std.proofs.lemmas.Option.{MatchOption-at_none}
use Rattle.dnsv_canonical.specs.Rrsets.{IsNumbered, ReceivedRrset}
use Rattle.dnsv_canonical.proofs.NumberLemmas.{one_numbered}
use Rattle.dnsv_trust_reasons.specs.Places.{IsKeyAt}
use Rattle.dnsv_trust_reasons.proofs.trust.self_line.Goals as goal

pub returns-in_default-2 : goal.returns-in_default-2
returns-in_default-2 c = λ name line is.
    let rrsets = c.args.facts.now.rrsets in
    let numbered : IsNumbered rrsets c.args.number.rrset c.in-Some.rrset.now =
    subst (λ (each : List ReceivedRrset). IsNumbered each c.args.number.rrset c.in-Some.rrset.now) c.capture.ensures c.in-Some.ensures in
    let same : is.0 ≡ c.in-Some.rrset.now = one_numbered rrsets c.args.number.rrset is.0 c.in-Some.rrset.now is.2 numbered in
    let At : ReceivedRrset → Type 0 = λ each. IsKeyAt each c.args.number.place is.1 in
    MatchOption-at_none _ _ c.in_default-2.is c.in_ok-key.ensures is.1 (subst At same is.3)
