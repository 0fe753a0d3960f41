use Rattle.std.proofs.Common.{sym}
use Rattle.std.proofs.lemmas.List.{get_or_read}
use Rattle.dnsv_lines.proofs.JsonLemmas.{Joined-all, Joined-next}
use Rattle.dnsv_lines.proofs.rrsets.push_named.Goals as goal

pub loop-field-preserved : goal.loop-field-preserved
loop-field-preserved c =
    Joined-next c.loop-field.invariant c.field-item.result c.push_named_by.new.numbers.items c.loop-field-test.true
    (λ d. sym (get_or_read c.args.fields.now c.loop-field.field-index c.field-item.result c.loop-field-test.true c.field-item.is d))
    c.in_ok-push_named_by.ensures

pub returns : goal.returns
returns c = Joined-all c.loop-field.invariant c.loop-field-test.false
