use Rattle.std.proofs.Common.{◌<◌, ℕ, Bor, get_or}
use Rattle.dnsv_canonical.specs.Rrsets.{ReceivedRrset}
use Rattle.dnsv_chain.specs.Ds.DsReading.{DelegatesByDigest}
use Rattle.dnsv_chain.proofs.delegated.has_digest.Given as goal

-- none of the DS RRsets so far has the digest
abbrev pub invariant-loop-ds : goal.invariant-loop-ds
invariant-loop-ds l =
    (k : ℕ) (d : Bor ReceivedRrset) → k < l.ds-index → DelegatesByDigest (get_or l.delegations k d).now l.digest_type.0 l.key l.digest → ⊥
