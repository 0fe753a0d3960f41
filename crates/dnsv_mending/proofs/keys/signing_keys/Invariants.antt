use Rattle.std.proofs.Common.{◌≡◌, map, take}
use Rattle.dnsv_mending.specs.Keys.{seen_signing, signing}
use Rattle.dnsv_mending.proofs.keys.signing_keys.Given as goal

-- those so far
abbrev pub invariant-loop-key : goal.invariant-loop-key
invariant-loop-key l = map seen_signing l.signed.items ≡ map (signing l.rrset) (take l.key-index l.rrset.keys.items)
