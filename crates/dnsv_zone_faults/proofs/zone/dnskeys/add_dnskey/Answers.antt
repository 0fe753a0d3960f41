use Rattle.std.proofs.Common.{List, sym, subst}
use Rattle.dnsv_canonical.specs.Rrsets.{IsNumbered, ReceivedRrset}
use Rattle.dnsv_zone_faults.specs.Dnskeys.DnskeySearch.{IsSetOf}
use Rattle.dnsv_canonical.proofs.NumberLemmas.{one_numbered}
use Rattle.dnsv_zone_faults.proofs.zone.dnskeys.add_dnskey.Goals as goal

pub returns-in_default : goal.returns-in_default
returns-in_default c =
    let set = c.requires.number.0 in
    absurd (c.in_default.ensures set (subst (λ (rrsets : List ReceivedRrset). IsNumbered rrsets c.args.number set) (sym c.capture.ensures) c.requires.number.1.numbered))

pub facts_of_set-requires-clause-set : goal.facts_of_set-requires-clause-set
facts_of_set-requires-clause-set c =
    let rrsets = c.args.keyed.now.facts.now.rrsets in
    let set = c.requires.number.0 in
    let rrset = c.in-Some.rrset.now in
    let numbered = subst (λ (all : List ReceivedRrset). IsNumbered all c.args.number rrset) c.capture.ensures c.in-Some.ensures in
    subst (λ (each : ReceivedRrset). IsSetOf rrsets c.args.keyed.now.zone.now c.args.number each)
    (one_numbered rrsets c.args.number set rrset c.requires.number.1.numbered numbered) c.requires.number.1

pub returns : goal.returns
returns c = record { known = c.in_ok-facts_of_set.field-0; is = c.in_ok-facts_of_set.ensures; added = c.in_ok-push.ensures.items }
