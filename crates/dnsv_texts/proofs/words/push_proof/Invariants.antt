use Rattle.std.specs.Prelude.{string_bytes}
use Rattle.dnsv_texts.specs.Told.{number_words}
use Rattle.dnsv_lines.proofs.JsonLemmas.{Joined}
use Rattle.dnsv_texts.proofs.words.push_proof.Given as goal

abbrev pub invariant-loop-number : goal.invariant-loop-number
invariant-loop-number l = Joined (number_words l.rrsets) l.records l.number-index (string_bytes l.fn.text) (string_bytes l.text)
