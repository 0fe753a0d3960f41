use Rattle.std.proofs.Common.{rules, ◌≡◌, [], ◌∷◌, ◌++◌, codes, string_bytes, true}
use Rattle.std.specs.Fmt.{decimal}
use Rattle.dnsv_questions.specs.Subcommand.{question_word}
use Rattle.dnsv_evidence_texts.specs.Question.{question_members}
use Rattle.dnsv_lines.specs.Json.{member, name_json, parted, quoted}
use Rattle.dnsv_evidence_texts.proofs.ObjectLemmas.{refused_written}
use Rattle.dnsv_evidence_texts.proofs.json.refused.refused_json.Goals as goal

pub returns : goal.returns
returns c =
    let heading = c.args.heading.now in
    let s1 : string_bytes c.push_question.new.text
    ≡ codes "{" ++ parted true (question_members c.args.why heading.name.now heading.rtype.0 heading.moment) = search rules in
    let s2 : string_bytes c.write.new.self ≡ string_bytes c.push_question.new.text
    ++ (codes ",\"refused\":" ++ (decimal c.args.number ++ (codes ",\"status\":" ++ decimal heading.status))) = c.in_ok-write.ensures.bytes in
    let s3 : string_bytes c.push_str.new.self ≡ string_bytes c.write.new.self ++ codes "}\n" = c.in_ok-push_str.ensures.bytes in
    refused_written (string_bytes c.push_question.new.text) (string_bytes c.write.new.self) (string_bytes c.push_str.new.self) (decimal c.args.number) (decimal heading.status)
    (member (codes "command") (quoted (question_word c.args.why)))
    (member (codes "name") (name_json heading.name.now) ∷ member (codes "type") (decimal heading.rtype.0) ∷ member (codes "moment") (decimal heading.moment) ∷ [])
    s1 s2 s3
