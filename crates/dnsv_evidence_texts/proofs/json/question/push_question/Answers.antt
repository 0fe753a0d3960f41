use Rattle.std.proofs.Common.{rules, ◌≡◌, ◌++◌, ◌∙◌, ℕ, List, ap, codes, string_bytes}
use Rattle.std.specs.Fmt.{decimal}
use Rattle.dnsv_questions.specs.Subcommand.{question_word}
use Rattle.dnsv_lines.specs.Json.{name_json}
use Rattle.dnsv_evidence_texts.proofs.ObjectLemmas.{question_begun}
use Rattle.dnsv_evidence_texts.proofs.json.question.push_question.Goals as goal

pub returns : goal.returns
returns c =
    let s1 : string_bytes c.write.new.self ≡ string_bytes c.args.text.now ++ (codes "{\"command\":\"" ++ (question_word c.args.why ++ codes "\",\"name\":")) =
    c.in_ok-write.ensures.bytes ∙ ap (λ (w : List ℕ). string_bytes c.args.text.now ++ (codes "{\"command\":\"" ++ (w ++ codes "\",\"name\":"))) c.question_word-command.ensures in
    let s2 : string_bytes c.push_name.new.text ≡ string_bytes c.write.new.self ++ name_json c.args.heading.now.name.now = search rules in
    let s3 : string_bytes c.write-2.new.self ≡ string_bytes c.push_name.new.text
    ++ (codes ",\"type\":" ++ (decimal c.args.heading.now.rtype.0 ++ (codes ",\"moment\":" ++ decimal c.args.heading.now.moment))) = search rules in
    question_begun (string_bytes c.args.text.now) (string_bytes c.write.new.self) (string_bytes c.push_name.new.text) (string_bytes c.write-2.new.self)
    (question_word c.args.why) (name_json c.args.heading.now.name.now) (decimal c.args.heading.now.rtype.0) (decimal c.args.heading.now.moment) s1 s2 s3
