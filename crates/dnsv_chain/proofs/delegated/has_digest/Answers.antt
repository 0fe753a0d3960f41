use Rattle.std.proofs.lemmas.Bool.{false≢true}
use Rattle.dnsv_chain.specs.Ds.DsReading.{DelegatesByDigest}
use Rattle.dnsv_chain.proofs.DelegatedLemmas.{none_found}
use Rattle.dnsv_chain.proofs.delegated.has_digest.Goals as goal

pub returns : goal.returns
returns c =
    (λ no_truth. absurd (false≢true no_truth), λ some. absurd (none_found (λ ds. DelegatesByDigest ds c.args.digest_type.0 c.args.key.now c.args.digest.now) c.args.delegations.now c.loop-ds.ds-index c.loop-ds-test.false c.loop-ds.invariant some))
