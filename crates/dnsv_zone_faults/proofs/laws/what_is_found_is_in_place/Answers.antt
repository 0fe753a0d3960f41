use Rattle.std.proofs.Common.{length, arith}
use Rattle.dnsv_names.specs.Tree.TreeLaws.{at_or_below_length}
use Rattle.dnsv_zone_faults.proofs.lemmas.zones.InPlaceLemmas.{in_place, signer_there}
use Rattle.dnsv_zone_faults.proofs.laws.what_is_found_is_in_place.Goals as goal

pub returns-clause-zones : goal.returns-clause-zones
returns-clause-zones c = λ basis name t zones formed are. in_place basis name t zones are formed

pub returns-clause-signature : goal.returns-clause-signature
returns-clause-signature c = λ basis name t zones k rrset s facts its are above.
    let fewer = at_or_below_length name its.rrsig.signer above in
    let number = its.signer in
    let count = are.count in
    signer_there basis name t zones are k rrset s facts its above (length zones) (omega (arith, fewer, number, count))
