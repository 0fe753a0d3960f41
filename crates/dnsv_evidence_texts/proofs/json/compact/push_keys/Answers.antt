use Rattle.std.proofs.Common.{string_bytes, sym}
use Rattle.std.proofs.lemmas.List.{get_or_read}
use Rattle.dnsv_lines.proofs.JsonLemmas.{Parted-next}
use Rattle.dnsv_evidence_texts.proofs.json.compact.push_keys.Goals as goal

pub loop-key-preserved : goal.loop-key-preserved
loop-key-preserved c =
    Parted-next c.loop-key.invariant c.key-item.result c.push_key.new.first (string_bytes c.push_key.new.text) c.loop-key-test.true
    (λ d. sym (get_or_read c.args.keys.now c.loop-key.key-index c.key-item.result c.loop-key-test.true c.key-item.is d))
    c.in_ok-push_key.ensures.text c.in_ok-push_key.ensures.first
