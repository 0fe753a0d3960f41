use Rattle.std.proofs.Common.{List, get_or, subst}
use Rattle.std.proofs.lemmas.List.{drop_all, drop_more}
use Rattle.dnsv_canonical.specs.Rrsets.{ReceivedRrset}
use Rattle.dnsv_canonical.specs.declared.number.SignatureNumber.{SignatureNumber}
use Rattle.dnsv_moments.specs.Dated.{AddsDated}
use Rattle.dnsv_moments.proofs.DatedLemmas.{dated_all, dated_more}
use Rattle.dnsv_moments.proofs.dated.dated_signatures.Goals as goal

abbrev nothing : SignatureNumber
nothing = record { rrset = 0; signature = 0 }

pub loop-number-preserved : goal.loop-number-preserved
loop-number-preserved c =
    let number = get_or c.args.numbers.now c.loop-number.number-index nothing in
    let Adds : List ReceivedRrset → Type 0 = λ rrsets. AddsDated rrsets number c.loop-number.all.items c.push_dated.new.all.items in
    dated_more c.args.capture.now.rrsets c.args.numbers.now c.loop-number.number-index number c.loop-number.all.items c.push_dated.new.all.items
    (drop_more c.args.numbers.now c.loop-number.number-index nothing c.loop-number-test.true) c.loop-number.invariant
    (subst Adds c.rrsets.ensures.value c.in_ok-push_dated.ensures)

pub returns : goal.returns
returns c =
    dated_all c.args.capture.now.rrsets c.args.numbers.now c.loop-number.number-index c.loop-number.all.items
    (drop_all c.loop-number.number-index c.args.numbers.now c.loop-number-test.false) c.loop-number.invariant
