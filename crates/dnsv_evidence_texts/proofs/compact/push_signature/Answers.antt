use Rattle.std.proofs.Common.{string_bytes}
use Rattle.dnsv_compact.specs.CompactList.{listed_signature}
use Rattle.dnsv_evidence_texts.specs.Compact.{signature_json, signature_line}
use Rattle.dnsv_evidence_texts.proofs.PartLemmas.{one_line, one_object}
use Rattle.dnsv_evidence_texts.proofs.compact.push_signature.Goals as goal

pub returns-in_ok-push_line-in-Lines-clause-text : goal.returns-in_ok-push_line-in-Lines-clause-text
returns-in_ok-push_line-in-Lines-clause-text c =
    one_line (signature_line c.args.rrset) signature_json c.args.format c.args.first.now (listed_signature c.args.signature c.args.rrsig.now)
    (string_bytes c.args.text.now) (string_bytes c.push_line.new.text) c.in-Lines.is c.in_ok-push_line-in-Lines.ensures

pub returns-in_ok-push_signature-in-Json-clause-text : goal.returns-in_ok-push_signature-in-Json-clause-text
returns-in_ok-push_signature-in-Json-clause-text c =
    one_object (signature_line c.args.rrset) signature_json c.args.format c.args.first.now (listed_signature c.args.signature c.args.rrsig.now)
    (string_bytes c.args.text.now) (string_bytes c.push_signature.new.text) c.in-Json.is c.in_ok-push_signature-in-Json.ensures.text
