use Rattle.std.specs.Prelude.{[], ◌∷◌, ◌++◌, codes, string_bytes, true}
use Rattle.dnsv_evidence_texts.specs.Compact.{key_json}
use Rattle.dnsv_lines.proofs.JsonLemmas.{Parted}
use Rattle.dnsv_evidence_texts.proofs.json.compact.push_keys.Given as goal

abbrev pub invariant-loop-key : goal.invariant-loop-key
invariant-loop-key l =
    Parted (λ each. key_json each ∷ []) l.keys l.key-index true (string_bytes l.fn.text ++ codes "[") l.first (string_bytes l.text)
