use Rattle.std.proofs.Common.{sym, ◌∙◌}
use Rattle.dnsv_names.specs.Order.OrderLaws.{same_name_Decides}
use Rattle.dnsv_verifier.proofs.admissible.are_equal.Goals as goal

pub returns : goal.returns
returns c =
    let test = same_name_Decides c.args.a.now c.args.b.now in
    (λ equal. test.0 (sym c.eq.ensures ∙ equal), λ same. c.eq.ensures ∙ test.1 same)
