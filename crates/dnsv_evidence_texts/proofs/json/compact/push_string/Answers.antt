use Rattle.std.proofs.Common.{string_bytes}
use Rattle.dnsv_lines.proofs.JsonLemmas.{one_written}
use Rattle.dnsv_evidence_texts.specs.Json.{octets_json}
use Rattle.dnsv_evidence_texts.proofs.json.compact.push_string.Goals as goal

pub returns-clause-text : goal.returns-clause-text
returns-clause-text c =
    one_written c.args.first.now (string_bytes c.args.text.now) (string_bytes c.push_comma.new.text) (string_bytes c.push_octets.new.text)
    (octets_json c.args.octets.now) c.in_ok-push_comma.ensures.text c.in_ok-push_octets.ensures
