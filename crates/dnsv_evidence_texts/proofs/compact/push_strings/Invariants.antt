use Rattle.std.specs.Prelude.{string_bytes}
use Rattle.dnsv_lines.proofs.JsonLemmas.{Joined}
use Rattle.dnsv_evidence_texts.specs.Compact.{rdata_text}
use Rattle.dnsv_evidence_texts.proofs.compact.push_strings.Given as goal

abbrev pub invariant-loop-octets : goal.invariant-loop-octets
invariant-loop-octets l =
    Joined (λ each. rdata_text each.items) l.strings l.octets-index (string_bytes l.fn.text) (string_bytes l.text)
