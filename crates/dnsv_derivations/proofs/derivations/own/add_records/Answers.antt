use Rattle.std.proofs.Common.{refl}
use Rattle.std.proofs.lemmas.List.Elements.{Contains-get_or}
use Rattle.dnsv_canonical.specs.declared.number.RecordNumber.{RecordNumber}
use Rattle.dnsv_derivations.specs.derivations.OwnDerivations.{IsOwnDerivation}
use Rattle.dnsv_derivations.specs.Explained.{setting_in}
use Rattle.dnsv_derivations.proofs.lemmas.SayingLemmas.{all_added, next_added, none_added}
use Rattle.dnsv_derivations.proofs.derivations.own.add_records.Goals as goal

pub loop-number-init : goal.loop-number-init
loop-number-init c =
    none_added (λ (number : RecordNumber). IsOwnDerivation (setting_in c.args.evidence.now) c.args.zone.now number.rrset)
    c.args.lines.now.items c.args.records.now

pub add_own-requires : goal.add_own-requires
add_own-requires c =
    c.requires _ (Contains-get_or c.args.records.now c.loop-number.number-index _ c.loop-number-test.true)

pub loop-number-preserved : goal.loop-number-preserved
loop-number-preserved c =
    next_added (λ (number : RecordNumber). IsOwnDerivation (setting_in c.args.evidence.now) c.args.zone.now number.rrset)
    c.args.records.now c.loop-number.number-index _ _ c.args.lines.now.items _ _ c.loop-number-test.true
    refl c.loop-number.invariant c.in_ok-add_own.ensures

pub returns : goal.returns
returns c =
    all_added (λ (number : RecordNumber). IsOwnDerivation (setting_in c.args.evidence.now) c.args.zone.now number.rrset)
    c.args.records.now c.loop-number.number-index c.args.lines.now.items _ c.loop-number-test.false c.loop-number.invariant
