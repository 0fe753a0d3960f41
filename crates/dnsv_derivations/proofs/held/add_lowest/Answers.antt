use Rattle.std.proofs.Common.{refl}
use Rattle.dnsv_derivations.specs.Explained.{setting_in}
use Rattle.dnsv_derivations.specs.derivations.HeldTo.{IsLowestDerived}
use Rattle.dnsv_derivations.specs.derivations.HeldTo.IsLowestDerived.{unsigned}
use Rattle.dnsv_derivations.proofs.lemmas.derivations.HeldLemmas.{lowest_added}
use Rattle.dnsv_derivations.proofs.lemmas.SayingLemmas.{nothing_added}
use Rattle.dnsv_derivations.proofs.lemmas.unsigned_cuts.UnusableLemmas.{lowest_good}
use Rattle.dnsv_derivations.proofs.held.add_lowest.Goals as goal

pub returns-in_default : goal.returns-in_default
returns-in_default c =
    nothing_added c.args.lines.now.items (IsLowestDerived (setting_in c.args.evidence.now) c.args.number)
    (unsigned (λ has. c.in_default.ensures has.0 has.1) refl)

pub add_derivation-requires : goal.add_derivation-requires
add_derivation-requires c =
    lowest_good (setting_in c.args.evidence.now) c.args.number c.in-Some.lowest c.in-Some.ensures.0 c.in-Some.ensures.1

pub returns : goal.returns
returns c =
    lowest_added (setting_in c.args.evidence.now) c.args.number c.in-Some.lowest c.args.lines.now.items _ c.in-Some.ensures.0
    c.in-Some.ensures.1 c.in_ok-add_derivation.ensures
