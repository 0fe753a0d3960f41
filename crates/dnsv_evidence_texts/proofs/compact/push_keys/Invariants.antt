use Rattle.std.specs.Prelude.{string_bytes}
use Rattle.dnsv_evidence_texts.specs.Compact.{key_line}
use Rattle.dnsv_evidence_texts.proofs.ShowingLemmas.{Written}
use Rattle.dnsv_evidence_texts.proofs.compact.push_keys.Given as goal

abbrev pub invariant-loop-index : goal.invariant-loop-index
invariant-loop-index l = Written key_line 1 l.keys l.index (string_bytes l.fn.text) (string_bytes l.text)
