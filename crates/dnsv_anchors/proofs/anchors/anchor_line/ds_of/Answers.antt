use Rattle.std.proofs.Common.{arith}
use Rattle.std.proofs.lemmas.Result.{err_from_is_err_and}
use Rattle.dnsv_anchors.proofs.AnchorLaws.AnchorLineLemmas.{some_ds_text}
use Rattle.dnsv_anchors.proofs.anchors.anchor_line.ds_of.Goals as goal

pub returns-in_err-digest-clause-refused : goal.returns-in_err-digest-clause-refused
returns-in_err-digest-clause-refused c =
    let p = err_from_is_err_and c.from_residual.result c.from_residual.ensures.1 in
    rw p.1 (some_ds_text c.args.key_tag.now c.args.algorithm.now c.args.digest_type.now c.args.digest.now c.in-Some.key_tag c.in-Some-decimal_u8.algorithm c.in-Some-decimal_u8-2.digest_type
    (record { digits = c.in-Some.ensures; fits = omega arith }) (record { digits = c.in-Some-decimal_u8.ensures; fits = omega arith }) (record { digits = c.in-Some-decimal_u8-2.ensures; fits = omega arith })
    c.in_err-digest.ensures.refused)
