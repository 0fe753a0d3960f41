use Rattle.std.proofs.Common.{List, subst, sym}
use Rattle.std.proofs.lemmas.Option.{MatchOption-at_none}
use Rattle.dnsv_canonical.specs.Rrsets.{ReceivedRrset}
use Rattle.dnsv_trust_reasons.specs.Places.{IsShown}
use Rattle.dnsv_trust_reasons.proofs.trust.signature_line.Goals as goal

pub returns-in_default : goal.returns-in_default
returns-in_default c = λ name line is.
    let Shown : List ReceivedRrset → Type 0 = λ each. IsShown each c.args.number is.0 in
    MatchOption-at_none _ _ c.in_default.is c.shown.ensures is.0 (subst Shown (sym c.capture.ensures) is.1)
