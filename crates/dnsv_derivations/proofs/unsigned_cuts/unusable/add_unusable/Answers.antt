use Rattle.dnsv_derivations.specs.Explained.{setting_in}
use Rattle.dnsv_derivations.proofs.lemmas.unsigned_cuts.UnusableLemmas.{lowest_good, unusable_told}
use Rattle.dnsv_derivations.proofs.unsigned_cuts.unusable.add_unusable.Goals as goal

pub returns-in_default : goal.returns-in_default
returns-in_default c = absurd (c.in_default.ensures c.requires.0 c.requires.1)

pub returns-in_default-lowest_secured : goal.returns-in_default-lowest_secured
returns-in_default-lowest_secured c =
    absurd (c.in_default-lowest_secured.ensures c.in-Some.ensures.is.secured.0 c.in-Some.ensures.is.secured.1)

pub add_derivation-requires : goal.add_derivation-requires
add_derivation-requires c =
    lowest_good (setting_in c.args.evidence.now) c.in-Some.number c.in-Some-lowest_secured.lowest c.in-Some-lowest_secured.ensures.0
    c.in-Some-lowest_secured.ensures.1

pub returns : goal.returns
returns c =
    unusable_told (setting_in c.args.evidence.now) c.args.name.now c.in-Some.number c.in-Some-lowest_secured.lowest _ _ _ _
    c.in-Some.ensures c.in-Some-lowest_secured.ensures.0 c.in-Some-lowest_secured.ensures.1 c.in_ok-add_derivation.ensures
    c.in_ok-add_case.ensures c.in_ok-add_why.ensures
