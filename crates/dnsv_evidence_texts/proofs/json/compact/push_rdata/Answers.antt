use Rattle.std.proofs.Common.{◌++◌, ◌∙◌, ap, map, string_bytes, sym}
use Rattle.std.proofs.lemmas.Simd.{map-map}
use Rattle.dnsv_lines.specs.Json.{array}
use Rattle.dnsv_evidence_texts.specs.Json.{octets_json}
use Rattle.dnsv_evidence_texts.proofs.json.compact.push_rdata.Goals as goal

pub returns : goal.returns
returns c =
    let canonical = c.in_ok-canonical.canonical.items in (
      map (λ each. each.items) canonical,
      c.in_ok-canonical.ensures,
      c.in_ok-push_strings.ensures ∙ ap (λ strings. string_bytes c.args.text.now ++ array (map (λ each. octets_json each.items) strings)) c.deref.ensures.value
          ∙ ap (λ values. string_bytes c.args.text.now ++ array values) (sym (map-map octets_json (λ each. each.items) canonical)),
    )
