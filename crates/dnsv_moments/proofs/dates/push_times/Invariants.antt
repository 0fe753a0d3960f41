use Rattle.std.proofs.Common.{take}
use Rattle.dnsv_moments.proofs.DateLemmas.{AddsRead}
use Rattle.dnsv_moments.proofs.dates.push_times.Given as goal

-- those of the signatures so far
abbrev pub invariant-loop-rrsig : goal.invariant-loop-rrsig
invariant-loop-rrsig l = AddsRead (take l.rrsig-index l.rrsig-items) l.initial.all.items l.all.items
