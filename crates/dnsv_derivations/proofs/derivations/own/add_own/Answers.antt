use Rattle.dnsv_derivations.specs.Explained.{setting_in}
use Rattle.dnsv_derivations.proofs.lemmas.derivations.OwnLemmas.{its_number, lowest_secured, own_derived}
use Rattle.dnsv_derivations.proofs.derivations.own.add_own.Goals as goal

pub returns-in_default : goal.returns-in_default
returns-in_default c =
    absurd (c.in_default.ensures _
    (its_number (setting_in c.args.evidence.now) c.args.zone.now c.args.rrset c.requires))

pub add_derivation-requires : goal.add_derivation-requires
add_derivation-requires c =
    lowest_secured (setting_in c.args.evidence.now) c.args.zone.now c.args.rrset c.in-Some.lowest c.in-Some.ensures.0 c.in-Some.ensures.1

pub returns : goal.returns
returns c =
    own_derived (setting_in c.args.evidence.now) c.args.zone.now c.args.rrset c.in-Some.lowest _ _ c.in-Some.ensures.0
    c.in-Some.ensures.1 c.in_ok-add_derivation.ensures
