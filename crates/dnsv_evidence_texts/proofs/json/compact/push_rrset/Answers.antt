use Rattle.std.proofs.Common.{string_bytes}
use Rattle.dnsv_lines.proofs.JsonLemmas.{one_written}
use Rattle.dnsv_evidence_texts.specs.Compact.{rrset_json}
use Rattle.dnsv_evidence_texts.proofs.json.compact.push_rrset.Goals as goal

pub returns-clause-text : goal.returns-clause-text
returns-clause-text c =
    let added = c.in_ok-push_rrset_members.ensures in (
      added.0,
      added.1,
      one_written c.args.first.now (string_bytes c.args.text.now) (string_bytes c.push_comma.new.text) (string_bytes c.push_rrset_members.new.text)
          (rrset_json added.0) c.in_ok-push_comma.ensures.text added.2,
    )
