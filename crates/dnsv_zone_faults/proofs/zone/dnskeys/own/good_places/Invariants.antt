use Rattle.std.proofs.Common.{take}
use Rattle.dnsv_verifier.specs.Admissible.{IsGood}
use Rattle.dnsv_verifier.specs.Asking.{GivesEach}
use Rattle.dnsv_verifier.specs.Table.{table_answer}
use Rattle.dnsv_zone_faults.specs.Dnskeys.DnskeySearch.{HasFound, IsFoundPlace}
use Rattle.dnsv_zone_faults.proofs.zone.dnskeys.own.good_places.Given as goal

-- those of the keys so far that it names
abbrev pub invariant-loop-named : goal.invariant-loop-named
invariant-loop-named l =
    GivesEach (IsFoundPlace l.keys (IsGood (table_answer l.table) l.table.moment l.rrset l.rrsig))
    (HasFound l.keys (IsGood (table_answer l.table) l.table.moment l.rrset l.rrsig)) (take l.named-index l.named-items) l.places.items
