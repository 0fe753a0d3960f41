use Rattle.dnsv_moments.proofs.DatedLemmas.{none_dated, some_dated}
use Rattle.dnsv_moments.proofs.dated.dated_signature.Goals as goal

pub returns-in_default-numbered : goal.returns-in_default-numbered
returns-in_default-numbered c =
    none_dated c.args.rrsets.now c.args.number c.in-Some.rrset.now c.signatures.result.now c.in-Some.ensures c.signatures.ensures
    c.in_default-numbered.ensures

pub returns : goal.returns
returns c =
    some_dated c.args.rrsets.now c.args.number c.in-Some.rrset.now c.signatures.result.now c.in-Some-numbered.rrsig.now
    c.in-Some.ensures c.signatures.ensures c.in-Some-numbered.ensures
