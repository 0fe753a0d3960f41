use Rattle.std.proofs.Common.{◌++◌, ◌∙◌, ap, append_assoc, codes, string_bytes, sym}
use Rattle.dnsv_lines.proofs.json.sentence.push_key.Goals as goal

pub returns : goal.returns
returns c =
    c.in_ok-write.ensures.bytes
    ∙ ap (λ t. string_bytes c.args.text.now ++ (codes ",\"" ++ t)) (sym (append_assoc c.args.key.now (codes "\"") (codes ":")))
