use Rattle.std.proofs.Common.{Option, Some, refl, subst}
use Rattle.dnsv_lines.specs.declared.line.fault.zone.WhyEntry.{WhyEntry}
use Rattle.dnsv_mending.specs.declared.facts.keys.VoucherFacts.{VoucherFacts}
use Rattle.dnsv_zone_keys.specs.Vouchers.VoucherSearch.{IsUnusableWord, wanted_of}
use Rattle.dnsv_zone_keys.proofs.lemmas.VoucherLemmas.{unusable_facts}
use Rattle.dnsv_zone_keys.proofs.vouchers.voucher_facts.Goals as goal

pub returns-in-Some : goal.returns-in-Some
returns-in-Some c = λ rrsets zone are.
    let wanted = wanted_of c.args.asked in
    let facts : VoucherFacts = record { number = c.args.number; why = Some c.in-Some.why; name = c.key_name.result; matches = c.new.result } in
    unusable_facts rrsets zone wanted c.args.number (Some c.in-Some.why) facts refl c.key_name.ensures refl c.new.ensures.items
    (λ never. absurd (cc never))
    (subst (λ (word : Option WhyEntry). IsUnusableWord wanted word) c.in-Some.is c.unusable_word.ensures)
