use Rattle.std.proofs.Common.{string_bytes, sym}
use Rattle.std.proofs.lemmas.List.{get_or_read}
use Rattle.dnsv_lines.proofs.JsonLemmas.{Parted-next}
use Rattle.dnsv_texts.proofs.json.checking.push_aliases.Goals as goal

pub loop-link-preserved : goal.loop-link-preserved
loop-link-preserved c =
    Parted-next c.loop-link.invariant c.link-item.result c.push_alias.new.first (string_bytes c.push_alias.new.text) c.loop-link-test.true
    (λ d. sym (get_or_read c.args.links.now c.loop-link.link-index c.link-item.result c.loop-link-test.true c.link-item.is d))
    c.in_ok-push_alias.ensures.text c.in_ok-push_alias.ensures.first
