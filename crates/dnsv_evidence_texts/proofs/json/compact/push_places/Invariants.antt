use Rattle.std.specs.Prelude.{[], ◌∷◌, ◌++◌, codes, string_bytes, true}
use Rattle.dnsv_evidence_texts.specs.Compact.{place_json}
use Rattle.dnsv_lines.proofs.JsonLemmas.{Parted}
use Rattle.dnsv_evidence_texts.proofs.json.compact.push_places.Given as goal

abbrev pub invariant-loop-place : goal.invariant-loop-place
invariant-loop-place l =
    Parted (λ each. place_json each ∷ []) l.places l.place-index true (string_bytes l.fn.text ++ codes "[") l.first (string_bytes l.text)
