use Rattle.dnsv_evidence_texts.proofs.json.moments.push_list_of.Goals as goal
