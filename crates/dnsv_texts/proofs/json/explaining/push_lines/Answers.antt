use Rattle.std.proofs.Common.{string_bytes, sym}
use Rattle.std.proofs.lemmas.List.{get_or_read}
use Rattle.dnsv_lines.proofs.JsonLemmas.{Parted-next}
use Rattle.dnsv_texts.proofs.json.explaining.push_lines.Goals as goal

pub loop-line-preserved : goal.loop-line-preserved
loop-line-preserved c =
    Parted-next c.loop-line.invariant c.line-item.result c.push_object.new.first (string_bytes c.push_object.new.text) c.loop-line-test.true
    (λ d. sym (get_or_read c.args.lines.now c.loop-line.line-index c.line-item.result c.loop-line-test.true c.line-item.is d))
    c.in_ok-push_object.ensures.text c.in_ok-push_object.ensures.first
