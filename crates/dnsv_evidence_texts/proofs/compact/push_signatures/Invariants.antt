use Rattle.std.specs.Prelude.{string_bytes, true}
use Rattle.dnsv_evidence_texts.specs.Compact.{signature_json, signature_line}
use Rattle.dnsv_evidence_texts.proofs.CompactLemmas.{OfSignature}
use Rattle.dnsv_evidence_texts.proofs.PartLemmas.{Listed}
use Rattle.dnsv_evidence_texts.proofs.compact.push_signatures.Given as goal

abbrev pub invariant-loop-index : goal.invariant-loop-index
invariant-loop-index l =
    Listed (OfSignature l.list.todo l.number) (signature_line l.number) signature_json l.format l.rrset.signatures l.index true (string_bytes l.fn.text) l.first (string_bytes l.text)
