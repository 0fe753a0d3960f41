use Rattle.std.proofs.Common.{string_bytes}
use Rattle.dnsv_lines.proofs.JsonLemmas.{one_written}
use Rattle.dnsv_evidence_texts.specs.Compact.{key_json}
use Rattle.dnsv_evidence_texts.proofs.json.compact.push_key.Goals as goal

pub returns-clause-text : goal.returns-clause-text
returns-clause-text c =
    one_written c.args.first.now (string_bytes c.args.text.now) (string_bytes c.push_comma.new.text) (string_bytes c.push_key_members.new.text)
    (key_json c.args.key.now) c.in_ok-push_comma.ensures.text c.in_ok-push_key_members.ensures
