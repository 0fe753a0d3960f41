use Rattle.dnsv_moments.proofs.lemmas.texts.ShownLemmas.{none_shown, some_shown}
use Rattle.dnsv_moments.proofs.texts.shown.shown_signature.Goals as goal

pub returns-in_default-numbered : goal.returns-in_default-numbered
returns-in_default-numbered c =
    none_shown c.args.rrsets.now c.args.number c.in-Some.rrset.now c.signatures.result.now c.in-Some.ensures c.signatures.ensures
    c.in_default-numbered.ensures

pub returns : goal.returns
returns c =
    some_shown c.args.rrsets.now c.args.number c.in-Some.rrset.now c.signatures.result.now c.in-Some.ensures c.signatures.ensures
    c.in-Some-numbered.rrsig.now c.in-Some-numbered.ensures c.shown_of.result c.shown_of.ensures
