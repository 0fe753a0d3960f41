use Rattle.std.specs.Prelude.{[], ◌∷◌, ◌++◌, codes, string_bytes, true}
use Rattle.dnsv_evidence_texts.specs.Json.{octets_json}
use Rattle.dnsv_lines.proofs.JsonLemmas.{Parted}
use Rattle.dnsv_evidence_texts.proofs.json.compact.push_strings.Given as goal

abbrev pub invariant-loop-octets : goal.invariant-loop-octets
invariant-loop-octets l =
    Parted (λ each. octets_json each.items ∷ []) l.strings l.octets-index true (string_bytes l.fn.text ++ codes "[") l.first (string_bytes l.text)
