use Rattle.std.proofs.Common.{string_bytes, sym}
use Rattle.std.proofs.lemmas.List.{get_or_read}
use Rattle.dnsv_lines.proofs.JsonLemmas.{Parted-next}
use Rattle.dnsv_moments.proofs.texts.json.push_borders.Goals as goal

pub loop-border-preserved : goal.loop-border-preserved
loop-border-preserved c =
    Parted-next c.loop-border.invariant c.border-item.result c.push_border.new.first (string_bytes c.push_border.new.text) c.loop-border-test.true
    (λ d. sym (get_or_read c.args.borders.now c.loop-border.border-index c.border-item.result c.loop-border-test.true c.border-item.is d))
    c.in_ok-push_border.ensures.text c.in_ok-push_border.ensures.first
