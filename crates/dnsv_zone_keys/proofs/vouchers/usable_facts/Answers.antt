use Rattle.std.proofs.Common.{ap, refl, sym, ◌∙◌}
use Rattle.dnsv_lines.specs.declared.line.derivation.KeyName.{KeyName}
use Rattle.dnsv_mending.specs.declared.facts.keys.VoucherFacts.{VoucherFacts}
use Rattle.dnsv_zone_keys.specs.Vouchers.VoucherSearch.{wanted_of}
use Rattle.dnsv_zone_keys.proofs.lemmas.VoucherLemmas.{usable_facts}
use Rattle.dnsv_zone_keys.proofs.vouchers.usable_facts.Goals as goal

pub returns : goal.returns
returns c = λ rrsets zone are.
    let wanted = wanted_of c.args.asked in
    let facts : VoucherFacts = record { number = c.args.number; why = c.key_word-why.result; name = c.key_name-name.result; matches = c.in_ok-matches.matches } in
    let tag = ap (λ (name : KeyName). name.tag.0) c.key_name-name.ensures in
    usable_facts rrsets zone c.args.keys.now are wanted c.tagged-tagged.result.now c.tagged-tagged.ensures.among
    (λ placed there its. c.tagged-tagged.ensures.all placed there (its ∙ sym tag)) c.args.number facts refl c.key_name-name.ensures c.requires
    c.key_word-why.ensures c.in_ok-matches.ensures
