use Rattle.std.proofs.Common.{rules, ◌≡◌, ◌++◌, ◌∙◌, ap, append_assoc, codes, string_bytes, sym}
use Rattle.std.proofs.lemmas.List.{get_or_read}
use Rattle.dnsv_lines.proofs.JsonLemmas.{Joined-next}
use Rattle.dnsv_evidence_texts.specs.Hex.{hex_text}
use Rattle.dnsv_evidence_texts.proofs.compact.push_strings.Goals as goal

pub loop-octets-preserved : goal.loop-octets-preserved
loop-octets-preserved c =
    let octets = c.octets-item.result in
    let written : string_bytes c.push_hex_text.new.text ≡ string_bytes c.push_str.new.self ++ hex_text octets.items = search rules in
    Joined-next c.loop-octets.invariant octets (string_bytes c.push_hex_text.new.text) c.loop-octets-test.true
    (λ d. sym (get_or_read c.args.strings.now c.loop-octets.octets-index octets c.loop-octets-test.true c.octets-item.is d))
    (written ∙ ap (λ t. t ++ hex_text octets.items) c.in_ok-push_str.ensures.bytes
    ∙ append_assoc (string_bytes c.loop-octets.text) (codes " ") (hex_text octets.items))
