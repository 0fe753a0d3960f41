use Rattle.std.proofs.Common.{refl}
use Rattle.dnsv_verifier.proofs.EntryLemmas.{one_entry}
use Rattle.dnsv_verifier.proofs.laws.a_pair_has_one_entry.Goals as goal

pub returns-clause-one : goal.returns-clause-one
returns-clause-one c = one_entry

pub returns-clause-some : goal.returns-clause-some
returns-clause-some c = λ moment rrset rrsig key admissible.
    let signed = (c.one_signed_data.ensures.some rrset.owner rrset.rtype rrset.rdata rrsig).1 admissible.over.labels in
    (record { algorithm = rrsig.algorithm; key = key.dnskey.key; signed_data = signed.0; signature = rrsig.signature }, record { algorithm = refl; key_field = refl; signed_data = signed.1; signature = refl })
