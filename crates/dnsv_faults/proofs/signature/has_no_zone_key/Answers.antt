use Rattle.std.proofs.Common.{not, sym, ap, ◌∙◌}
use Rattle.std.proofs.lemmas.Bool.{false≢true}
use Rattle.dnsv_zone_keys.proofs.lemmas.IndexLemmas.{names_some, names_zone, not_so}
use Rattle.dnsv_faults.proofs.signature.has_no_zone_key.Goals as goal

pub returns-then-not-is_empty : goal.returns-then-not-is_empty
returns-then-not-is_empty c = λ rrsets rrsig are.
    let some = names_some rrsets rrsig c.args.named.now c.is_empty.result are c.is_empty.ensures in
    let zone = names_zone rrsets rrsig c.args.named.now c.has_zone_key.result are c.has_zone_key.ensures in (
      λ yes. (some.0 (ap not c.if-not-is_empty.true), λ its. false≢true (sym (ap not (zone.1 its)) ∙ yes)),
      λ both. not_so c.has_zone_key.result (λ it. both.1 (zone.0 it)),
    )

pub returns-else-not-is_empty : goal.returns-else-not-is_empty
returns-else-not-is_empty c = λ rrsets rrsig are.
    let some = names_some rrsets rrsig c.args.named.now c.is_empty.result are c.is_empty.ensures in
    (λ yes. absurd (false≢true (sym (ap not c.if-not-is_empty.false) ∙ yes)), λ both. some.1 both.0)
