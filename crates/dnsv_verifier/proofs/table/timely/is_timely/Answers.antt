use Rattle.std.proofs.Common.{◌∙◌, arith}
use Rattle.dnsv_verifier.proofs.SignedDataLemmas.{long_too, number_too, short_too}
use Rattle.dnsv_verifier.proofs.TimelyLemmas.{short_fails, tested}
use Rattle.dnsv_verifier.proofs.table.timely.is_timely.Goals as goal

pub returns-then-octets-lt16 : goal.returns-then-octets-lt16
returns-then-octets-lt16 c =
    short_fails c.args.moment c.args.entry.now
    (short_too c.front-octets.result.now c.args.entry.now.signed_data c.front-octets.ensures c.if-octets-lt16.true)

pub returns : goal.returns
returns c =
    let front = c.front-octets.result.now in
    let octets = c.args.entry.now.signed_data in
    let is = c.front-octets.ensures in
    let long = c.if-octets-lt16.false in
    tested c.args.moment c.args.entry.now c.u32_at-2.result c.u32_at.result c.time_valid.result
    (long_too front octets is long)
    (c.u32_at-2.ensures ∙ number_too front octets is long 12 (omega arith))
    (c.u32_at.ensures ∙ number_too front octets is long 8 (omega arith))
    c.time_valid.ensures
