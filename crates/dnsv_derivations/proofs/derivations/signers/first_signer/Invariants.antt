use Rattle.std.proofs.Common.{◌-◌}
use Rattle.dnsv_derivations.specs.Explained.{setting_in}
use Rattle.dnsv_derivations.specs.derivations.SignerSearch.{IsFirstTo}
use Rattle.dnsv_derivations.specs.derivations.WaySearch.{number_or_end}
use Rattle.dnsv_derivations.proofs.derivations.signers.first_signer.Given as goal

-- the first of the RRsets before the one that is next
abbrev pub invariant-loop-k : goal.invariant-loop-k
invariant-loop-k l = IsFirstTo (setting_in l.evidence) l.number (number_or_end l.evidence.rrsets l.k-items l.k-index - 1) l.first
