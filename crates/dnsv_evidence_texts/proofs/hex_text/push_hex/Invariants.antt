use Rattle.std.specs.Prelude.{length, string_bytes}
use Rattle.dnsv_evidence_texts.proofs.HexLemmas.{HexSoFar}
use Rattle.dnsv_evidence_texts.proofs.hex_text.push_hex.Given as goal

abbrev pub invariant-loop-rest : goal.invariant-loop-rest
invariant-loop-rest l = HexSoFar l.octets (string_bytes l.initial.text) l.rest (string_bytes l.text)

abbrev pub decreases-loop-rest : goal.decreases-loop-rest
decreases-loop-rest l = length l.rest
