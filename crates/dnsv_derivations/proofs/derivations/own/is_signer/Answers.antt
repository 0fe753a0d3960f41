use Rattle.dnsv_names.specs.Order.OrderLaws.{same_name_Decides}
use Rattle.dnsv_derivations.proofs.derivations.own.is_signer.Goals as goal

pub returns : goal.returns
returns c = rw c.is_same.ensures (same_name_Decides c.args.rrsig.now.signer c.args.name.now)
