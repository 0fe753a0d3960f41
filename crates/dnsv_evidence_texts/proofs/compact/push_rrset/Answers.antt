use Rattle.std.proofs.Common.{string_bytes}
use Rattle.dnsv_evidence_texts.specs.Compact.{rrset_json, rrset_lines}
use Rattle.dnsv_evidence_texts.proofs.PartLemmas.{one_line, one_object}
use Rattle.dnsv_evidence_texts.proofs.compact.push_rrset.Goals as goal

pub returns-in_ok-push_lines-in-Lines-clause-text : goal.returns-in_ok-push_lines-in-Lines-clause-text
returns-in_ok-push_lines-in-Lines-clause-text c =
    let added = c.in_ok-push_lines-in-Lines.ensures in (
      added.0,
      added.1,
      one_line rrset_lines rrset_json c.args.format c.args.first.now added.0 (string_bytes c.args.text.now) (string_bytes c.push_lines.new.text) c.in-Lines.is added.2,
    )

pub returns-in_ok-push_rrset-in-Json-clause-text : goal.returns-in_ok-push_rrset-in-Json-clause-text
returns-in_ok-push_rrset-in-Json-clause-text c =
    let added = c.in_ok-push_rrset-in-Json.ensures.text in (
      added.0,
      added.1,
      one_object rrset_lines rrset_json c.args.format c.args.first.now added.0 (string_bytes c.args.text.now) (string_bytes c.push_rrset.new.text) c.in-Json.is added.2,
    )
