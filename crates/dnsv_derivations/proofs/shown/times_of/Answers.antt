use Rattle.dnsv_derivations.proofs.lemmas.intervals.ShownLemmas.{no_times, some_times}
use Rattle.dnsv_derivations.proofs.shown.times_of.Goals as goal

pub returns-in_default-numbered : goal.returns-in_default-numbered
returns-in_default-numbered c =
    no_times c.args.rrsets.now c.args.number c.in-Some.rrset.now c.signatures.result.now c.in-Some.ensures
    c.signatures.ensures c.in_default-numbered.ensures

pub returns : goal.returns
returns c =
    some_times c.args.rrsets.now c.args.number c.in-Some.rrset.now c.signatures.result.now c.in-Some-numbered.rrsig.now
    c.in-Some.ensures c.signatures.ensures c.in-Some-numbered.ensures
