use Rattle.std.proofs.Common.{sym, ◌∙◌}
use Rattle.dnsv_names.specs.Order.OrderLaws.{same_name_Decides}
use Rattle.dnsv_gaps.proofs.denials.signers.is_by.Goals as goal

pub returns : goal.returns
returns c =
    let test = same_name_Decides c.args.rrsig.now.signer c.args.zone.now in
    (λ yes. test.0 (sym c.is_same.ensures ∙ yes), λ same. c.is_same.ensures ∙ test.1 same)
