use Rattle.std.proofs.Common.{take}
use Rattle.dnsv_verifier.specs.Asking.{AddsJust, ComesOfSome}
use Rattle.dnsv_zone_faults.specs.Groups.GroupSearch.{IsMatched}
use Rattle.dnsv_zone_faults.proofs.zone.vouched.add_matches.Given as goal

-- those of the vouchers so far
abbrev pub invariant-loop-voucher : goal.invariant-loop-voucher
invariant-loop-voucher l = AddsJust (ComesOfSome IsMatched (take l.voucher-index l.vouchers)) l.initial.places.items l.places.items
