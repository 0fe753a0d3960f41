use Rattle.std.proofs.Common.{◌++◌, ◌∙◌, ap, codes, string_bytes}
use Rattle.dnsv_lines.specs.Sentence.{SaidSentence, json_under}
use Rattle.dnsv_lines.proofs.JsonLemmas.{one_written}
use Rattle.dnsv_moments.specs.texts.Shown.{border_json}
use Rattle.dnsv_moments.proofs.texts.json.push_border.Goals as goal

pub returns-clause-text : goal.returns-clause-text
returns-clause-text c =
    one_written c.args.first.now (string_bytes c.args.text.now) (string_bytes c.push_comma.new.text) (string_bytes c.push_object.new.text)
    (border_json c.args.border.now) c.in_ok-push_comma.ensures.text
    (c.in_ok-push_object.ensures
    ∙ ap (λ (sentence : SaidSentence). string_bytes c.push_comma.new.text ++ json_under (codes "edge") sentence) c.sentence.ensures)
