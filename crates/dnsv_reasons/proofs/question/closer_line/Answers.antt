use Rattle.std.proofs.Common.{List, subst, sym}
use Rattle.dnsv_canonical.specs.Rrsets.{ReceivedRrset}
use Rattle.dnsv_trust_reasons.specs.Places.{IsShown}
use Rattle.dnsv_reasons.proofs.question.closer_line.Goals as goal

pub returns-in_default-shown : goal.returns-in_default-shown
returns-in_default-shown c = λ line is.
    let Shown : List ReceivedRrset → Type 0 = λ each. IsShown each c.args.number is.1 in
    c.in_default-shown.ensures is.1 (subst Shown (sym c.capture.ensures) is.3)
