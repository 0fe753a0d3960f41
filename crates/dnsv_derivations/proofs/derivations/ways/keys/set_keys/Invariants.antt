use Rattle.std.proofs.Common.{take}
use Rattle.dnsv_derivations.specs.Explained.{setting_in}
use Rattle.dnsv_derivations.specs.derivations.WaySearch.{AreSetKeys}
use Rattle.dnsv_derivations.proofs.derivations.ways.keys.set_keys.Given as goal

-- the keys so far
abbrev pub invariant-loop-key : goal.invariant-loop-key
invariant-loop-key l =
    AreSetKeys (setting_in l.evidence) l.number l.rrset (take l.key-index l.keys) l.made.items
