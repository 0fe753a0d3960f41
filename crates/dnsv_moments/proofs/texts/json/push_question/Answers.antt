use Rattle.std.proofs.Common.{◌≡◌, ◌++◌, ◌∙◌, codes, rules, string_bytes}
use Rattle.std.specs.Fmt.{decimal}
use Rattle.dnsv_lines.specs.Json.{name_json}
use Rattle.dnsv_moments.proofs.lemmas.texts.TextLemmas.{question_begun}
use Rattle.dnsv_moments.proofs.texts.json.push_question.Goals as goal

pub returns : goal.returns
returns c =
    let question = c.args.question.now in
    let s2 : string_bytes c.push_name.new.text ≡ string_bytes c.push_str.new.self ++ name_json question.name.now = search rules in
    question_begun (string_bytes c.args.text.now) (string_bytes c.push_str.new.self) (string_bytes c.push_name.new.text) (string_bytes c.write.new.self)
    (name_json question.name.now) (decimal question.rtype.0) (decimal question.range.from) (decimal question.range.to)
    c.in_ok-push_str.ensures.bytes s2
    (c.in_ok-write.ensures.bytes
    ∙ (λ i. string_bytes c.push_name.new.text ++ (codes ",\"type\":" ++ (decimal question.rtype.0
    ++ (codes ",\"from\":" ++ (decimal (c.from-from.ensures.value i) ++ (codes ",\"to\":" ++ decimal (c.to-to.ensures.value i))))))))
