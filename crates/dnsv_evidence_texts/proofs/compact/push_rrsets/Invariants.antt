use Rattle.std.specs.Prelude.{string_bytes, true}
use Rattle.dnsv_evidence_texts.specs.Compact.{rrset_json, rrset_lines}
use Rattle.dnsv_evidence_texts.proofs.CompactLemmas.{OfRrset}
use Rattle.dnsv_evidence_texts.proofs.PartLemmas.{Listed}
use Rattle.dnsv_evidence_texts.proofs.compact.push_rrsets.Given as goal

abbrev pub invariant-loop-index : goal.invariant-loop-index
invariant-loop-index l =
    Listed (OfRrset l.list.todo) rrset_lines rrset_json l.format l.rrsets l.index true (string_bytes l.fn.text) l.first (string_bytes l.text)
