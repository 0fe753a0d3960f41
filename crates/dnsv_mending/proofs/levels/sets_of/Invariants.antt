use Rattle.std.proofs.Common.{◌≡◌, map, take}
use Rattle.std.specs.Option.{option_map}
use Rattle.dnsv_mending.specs.Mend.{seen}
use Rattle.dnsv_mending.specs.Zone.{dnskey_mend, seen_standing}
use Rattle.dnsv_mending.proofs.levels.sets_of.Given as goal

-- those so far
abbrev pub invariant-loop-rrset : goal.invariant-loop-rrset
invariant-loop-rrset l = map (option_map seen) l.sets.items ≡ map (dnskey_mend (seen_standing l.standing) l.zone) (take l.rrset-index l.rrsets)
