use Rattle.std.proofs.Common.{◌≡◌, arith}
use Rattle.dnsv_chain.proofs.DelegatedLemmas.{ds_names}
use Rattle.dnsv_chain.proofs.delegated.names_by_type.Goals as goal

pub returns-in-DS : goal.returns-in-DS
returns-in-DS c =
    let rtype = c.rtype.ensures in
    let in_ds = c.in-DS in
    let is : c.args.ds.now.rtype ≡ 43 = omega (arith, rtype, in_ds) in
    let both = ds_names c.args.ds.now c.ds_records.result.now is c.ds_records.ensures c.args.digest_type.0 c.args.key.now in
    (λ named. both.0 (c.has_named.ensures.0 named), λ names. c.has_named.ensures.1 (both.1 names))
