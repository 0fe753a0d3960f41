use Rattle.std.proofs.Common.{◌≡◌, [], ◌∷◌, ◌++◌, ◌∙◌, ℕ, List, ap, codes, string_bytes}
use Rattle.std.specs.Fmt.{decimal}
use Rattle.dnsv_questions.specs.Subcommand.{question_word}
use Rattle.dnsv_texts.specs.Checking.{verdict_word}
use Rattle.dnsv_lines.specs.Json.{member, name_json, quoted}
use Rattle.dnsv_evidence_texts.proofs.ObjectLemmas.{verdict_begun}
use Rattle.dnsv_texts.proofs.json.checking.push_verdict.Goals as goal

pub returns : goal.returns
returns c =
    let verdict = c.args.verdict.now in
    let heading = c.args.heading.now in
    let s2 : string_bytes c.write.new.self ≡ string_bytes c.push_question.new.text
    ++ (codes ",\"verdict\":\"" ++ (verdict_word verdict ++ (codes "\",\"status\":" ++ decimal heading.status))) =
    c.in_ok-write.ensures.bytes ∙ ap (λ (w : List ℕ). string_bytes c.push_question.new.text ++ (codes ",\"verdict\":\"" ++ (w ++ (codes "\",\"status\":" ++ decimal heading.status))))
    c.verdict_word-word.ensures in
    verdict_begun (string_bytes c.args.text.now) (string_bytes c.push_question.new.text) (string_bytes c.write.new.self) (verdict_word verdict) (decimal heading.status)
    (member (codes "command") (quoted (question_word c.args.why)))
    (member (codes "name") (name_json heading.name.now) ∷ member (codes "type") (decimal heading.rtype.0) ∷ member (codes "moment") (decimal heading.moment) ∷ [])
    c.in_ok-push_question.ensures s2
