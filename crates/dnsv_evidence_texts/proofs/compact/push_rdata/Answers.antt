use Rattle.std.proofs.Common.{◌++◌, ◌∙◌, ap, flat_map, map, string_bytes, sym}
use Rattle.std.proofs.lemmas.List.Folds.{flat_map-map}
use Rattle.dnsv_evidence_texts.specs.Compact.{rdata_text}
use Rattle.dnsv_evidence_texts.proofs.compact.push_rdata.Goals as goal

pub returns : goal.returns
returns c =
    let canonical = c.in_ok-canonical.canonical.items in (
      map (λ each. each.items) canonical,
      c.in_ok-canonical.ensures,
      c.in_ok-push_strings.ensures ∙ ap (λ strings. string_bytes c.args.text.now ++ flat_map (λ each. rdata_text each.items) strings) c.deref.ensures.value
          ∙ ap (λ t. string_bytes c.args.text.now ++ t) (sym (flat_map-map rdata_text (λ each. each.items) canonical)),
    )
