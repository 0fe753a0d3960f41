use Rattle.std.proofs.Common.{◌++◌, string_bytes, sym, ap, ◌∙◌}
use Rattle.std.proofs.lemmas.List.{append_assoc}
use Rattle.hex.specs.Hex.{encode_lower}
use Rattle.dnsv_evidence_texts.proofs.HexLemmas.{encode-append}
use Rattle.dnsv_evidence_texts.proofs.hex_text.push_signed_hex.Goals as goal

pub returns : goal.returns
returns c =
    let before = string_bytes c.args.text.now in
    let front = c.pieces.result.0.now in
    let records = c.pieces.result.1.now in
    c.in_ok-push_hex-2.ensures ∙ ap (λ begun. begun ++ encode_lower records) c.in_ok-push_hex.ensures
    ∙ append_assoc before (encode_lower front) (encode_lower records)
    ∙ ap (λ rest. before ++ rest) (sym (encode-append front records) ∙ ap encode_lower c.pieces.ensures)
