use Rattle.std.proofs.Common.{rules, ◌≡◌, [], ◌∷◌, ◌++◌, string_bytes, sym}
use Rattle.std.proofs.lemmas.List.{get_or_read}
use Rattle.dnsv_lines.specs.Json.{parted}
use Rattle.dnsv_lines.proofs.JsonLemmas.{Parted-next}
use Rattle.dnsv_evidence_texts.specs.Json.{octets_json}
use Rattle.dnsv_evidence_texts.proofs.json.compact.push_strings.Goals as goal

pub loop-octets-preserved : goal.loop-octets-preserved
loop-octets-preserved c =
    let octets = c.octets-item.result in
    let written : string_bytes c.push_string.new.text ≡ string_bytes c.loop-octets.text ++ parted c.loop-octets.first (octets_json octets.items ∷ []) = search rules in
    Parted-next c.loop-octets.invariant octets c.push_string.new.first (string_bytes c.push_string.new.text) c.loop-octets-test.true
    (λ d. sym (get_or_read c.args.strings.now c.loop-octets.octets-index octets c.loop-octets-test.true c.octets-item.is d))
    written c.in_ok-push_string.ensures.first
