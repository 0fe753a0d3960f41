use Rattle.std.proofs.Common.{take}
use Rattle.dnsv_derivations.specs.derivations.OwnDerivations.{AreRecordsDerived}
use Rattle.dnsv_derivations.specs.Explained.{setting_in}
use Rattle.dnsv_derivations.specs.Saying.{Adds}
use Rattle.dnsv_derivations.proofs.derivations.own.add_records.Given as goal

abbrev pub invariant-loop-number : goal.invariant-loop-number
invariant-loop-number l =
    Adds (AreRecordsDerived (setting_in l.evidence) l.zone (take l.number-index l.records)) l.initial.lines.items l.lines.items
