use Rattle.std.proofs.Common.{string_bytes}
use Rattle.dnsv_compact.specs.CompactList.{listed_signature}
use Rattle.dnsv_lines.proofs.JsonLemmas.{one_written}
use Rattle.dnsv_evidence_texts.specs.Compact.{signature_json}
use Rattle.dnsv_evidence_texts.proofs.json.compact.push_signature.Goals as goal

pub returns-clause-text : goal.returns-clause-text
returns-clause-text c =
    one_written c.args.first.now (string_bytes c.args.text.now) (string_bytes c.push_comma.new.text) (string_bytes c.push_signature_members.new.text)
    (signature_json (listed_signature c.args.number c.args.rrsig.now)) c.in_ok-push_comma.ensures.text c.in_ok-push_signature_members.ensures
