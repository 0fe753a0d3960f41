use Rattle.std.specs.Prelude.{string_bytes}
use Rattle.dnsv_evidence_texts.specs.Compact.{place_line}
use Rattle.dnsv_evidence_texts.proofs.ShowingLemmas.{Written}
use Rattle.dnsv_evidence_texts.proofs.compact.push_places.Given as goal

abbrev pub invariant-loop-index : goal.invariant-loop-index
invariant-loop-index l = Written place_line 1 l.places l.index (string_bytes l.fn.text) (string_bytes l.text)
