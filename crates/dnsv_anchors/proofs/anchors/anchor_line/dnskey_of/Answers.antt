use Rattle.std.proofs.Common.{arith, sym, ◌∙◌}
use Rattle.std.proofs.lemmas.Bool.{false≢true}
use Rattle.std.proofs.lemmas.Result.{err_from_is_err_and}
use Rattle.dnsv_anchors.proofs.AnchorLaws.AnchorLineLemmas.{dnskey_said, no_base64, some_dnskey}
use Rattle.dnsv_anchors.proofs.anchors.anchor_line.dnskey_of.Goals as goal

pub returns-then-not-is_base64-clause-found : goal.returns-then-not-is_base64-clause-found
returns-then-not-is_base64-clause-found c =
    no_base64 c.args.flags.now c.args.protocol.now c.args.algorithm.now c.args.key.now
    (λ is. false≢true (sym c.if-not-is_base64.true ∙ c.is_base64.ensures.1 is))

pub returns-in_err-key-clause-refused : goal.returns-in_err-key-clause-refused
returns-in_err-key-clause-refused c =
    let p = err_from_is_err_and c.from_residual.result c.from_residual.ensures.1 in
    rw p.1 (some_dnskey c.args.flags.now c.args.protocol.now c.args.algorithm.now c.args.key.now c.in-Some.flags c.in-Some-decimal_u8.protocol c.in-Some-decimal_u8-2.algorithm
    (record { digits = c.in-Some.ensures; fits = omega arith }) (record { digits = c.in-Some-decimal_u8.ensures; fits = omega arith }) (record { digits = c.in-Some-decimal_u8-2.ensures; fits = omega arith })
    (c.is_base64.ensures.0 c.if-not-is_base64.false))

pub returns-in_err-dnskey_rdata-clause-refused : goal.returns-in_err-dnskey_rdata-clause-refused
returns-in_err-dnskey_rdata-clause-refused c =
    let p = err_from_is_err_and c.from_residual-in_err-dnskey_rdata.result c.from_residual-in_err-dnskey_rdata.ensures.1 in
    rw p.1 (some_dnskey c.args.flags.now c.args.protocol.now c.args.algorithm.now c.args.key.now c.in-Some.flags c.in-Some-decimal_u8.protocol c.in-Some-decimal_u8-2.algorithm
    (record { digits = c.in-Some.ensures; fits = omega arith }) (record { digits = c.in-Some-decimal_u8.ensures; fits = omega arith }) (record { digits = c.in-Some-decimal_u8-2.ensures; fits = omega arith })
    (c.is_base64.ensures.0 c.if-not-is_base64.false))

pub returns-clause-found : goal.returns-clause-found
returns-clause-found c =
    dnskey_said c.args.flags.now c.args.protocol.now c.args.algorithm.now c.args.key.now c.in-Some.flags c.in-Some-decimal_u8.protocol c.in-Some-decimal_u8-2.algorithm c.in_ok-key.key.items _
    (record { digits = c.in-Some.ensures; fits = omega arith }) (record { digits = c.in-Some-decimal_u8.ensures; fits = omega arith }) (record { digits = c.in-Some-decimal_u8-2.ensures; fits = omega arith })
    c.in_ok-key.ensures (rw (← c.deref.ensures.value) c.in_ok-dnskey_rdata.ensures)
