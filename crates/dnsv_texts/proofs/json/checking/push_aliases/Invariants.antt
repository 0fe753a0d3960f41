use Rattle.std.specs.Prelude.{[], ◌∷◌, ◌++◌, codes, string_bytes, true}
use Rattle.dnsv_texts.specs.Checking.{alias_json}
use Rattle.dnsv_lines.proofs.JsonLemmas.{Parted}
use Rattle.dnsv_texts.proofs.json.checking.push_aliases.Given as goal

abbrev pub invariant-loop-link : goal.invariant-loop-link
invariant-loop-link l =
    Parted (λ link. alias_json link ∷ []) l.links l.link-index true (string_bytes l.fn.text ++ codes "[") l.first (string_bytes l.text)
