use Rattle.std.specs.Prelude.{◌+◌, string_bytes}
use Rattle.dnsv_evidence_texts.specs.Showing.{record_line}
use Rattle.dnsv_evidence_texts.proofs.ShowingLemmas.{Written}
use Rattle.dnsv_evidence_texts.proofs.showing.push_records.Given as goal

abbrev pub invariant-loop-index : goal.invariant-loop-index
invariant-loop-index l = Written record_line (l.before + 1) l.records l.index (string_bytes l.fn.text) (string_bytes l.text)
