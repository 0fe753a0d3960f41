use Rattle.dnsv_zone_keys.specs.Vouchers.VoucherSearch.{wanted_of}
use Rattle.dnsv_zone_keys.proofs.lemmas.VoucherLemmas.{some_match}
use Rattle.dnsv_zone_keys.proofs.vouchers.key_word.Goals as goal

pub returns-then-not-is_empty : goal.returns-then-not-is_empty
returns-then-not-is_empty c =
    some_match c.args.keys.now (wanted_of c.args.asked) c.args.matches.now c.is_empty.result c.requires c.is_empty.ensures c.if-not-is_empty.true
