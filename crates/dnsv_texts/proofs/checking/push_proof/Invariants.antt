use Rattle.std.specs.Prelude.{string_bytes}
use Rattle.dnsv_texts.specs.Checking.{proof_line}
use Rattle.dnsv_lines.proofs.JsonLemmas.{Joined}
use Rattle.dnsv_texts.proofs.checking.push_proof.Given as goal

abbrev pub invariant-loop-number : goal.invariant-loop-number
invariant-loop-number l = Joined (proof_line l.rrsets) l.records l.number-index (string_bytes l.fn.text) (string_bytes l.text)
