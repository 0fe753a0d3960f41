use Rattle.std.proofs.Common.{rules, ◌≡◌, [], ◌∷◌, ◌++◌, ◌∙◌, ap, codes, false, map, string_bytes, sym, true}
use Rattle.std.specs.Fmt.{decimal}
use Rattle.std.specs.Option.{option_map}
use Rattle.std.specs.Prelude.{is_none, is_some}
use Rattle.dnsv_questions.specs.Subcommand.{question_word}
use Rattle.dnsv_texts.specs.Checking.{alias_json, reason_members, verdict_members, verdict_word}
use Rattle.dnsv_lines.specs.Json.{AddsMembers, array, member, name_json, parted, quoted}
use Rattle.dnsv_texts.specs.Why.{why_members}
use Rattle.dnsv_texts.proofs.CheckingLemmas.{members_are, none_where, still_some}
use Rattle.dnsv_lines.proofs.MemberLemmas.{more_members}
use Rattle.dnsv_evidence_texts.proofs.ObjectLemmas.{verdict_written}
use Rattle.dnsv_texts.proofs.json.checking.verdict_json.Goals as goal

pub returns : goal.returns
returns c =
    let report = c.args.report.now in
    let name = c.args.heading.now.name.now in
    let why = option_map (λ lines. lines.now) c.args.why in
    let numbers = option_map (λ numbers. numbers.now) c.args.numbers in
    let reason = reason_members c.args.rrsets.now report.verdict (is_none numbers) in
    let whole_is : c.is_none-whole.result ≡ is_none numbers = none_where (λ numbers. numbers.now) c.args.numbers c.is_none-whole.result c.is_none-whole.ensures in
    let s1 : string_bytes c.push_verdict.new.text
    ≡ codes "{" ++ parted true (verdict_members (is_some c.args.why) name c.args.heading.now.rtype.0 c.args.heading.now.moment c.args.heading.now.status report.verdict) = search rules in
    let s2 : string_bytes c.push_str.new.self ≡ string_bytes c.push_verdict.new.text ++ codes ",\"aliases\":" = c.in_ok-push_str.ensures.bytes in
    let s3 : string_bytes c.push_aliases.new.text ≡ string_bytes c.push_str.new.self ++ array (map alias_json report.links) = search rules in
    let carried : AddsMembers reason (string_bytes c.push_aliases.new.text) (string_bytes c.push_reason.new.text) = record {
      text = c.in_ok-push_reason.ensures ∙ ap (λ each. string_bytes c.push_aliases.new.text ++ each) (members_are c.args.rrsets.now report.verdict c.is_none-whole.result)
          ∙ ap (λ w. string_bytes c.push_aliases.new.text ++ parted false (reason_members c.args.rrsets.now report.verdict w)) whole_is;
    } in
    let s4 : string_bytes c.push_why.new.text ≡ string_bytes c.push_aliases.new.text ++ parted false (reason ++ why_members why numbers) =
    (more_members carried c.in_ok-push_why.ensures).text in
    let s5 : string_bytes c.push_str-2.new.self ≡ string_bytes c.push_why.new.text ++ codes "}\n" = c.in_ok-push_str-2.ensures.bytes in
    verdict_written (string_bytes c.push_verdict.new.text) (string_bytes c.push_str.new.self) (string_bytes c.push_aliases.new.text)
    (string_bytes c.push_why.new.text) (string_bytes c.push_str-2.new.self) (array (map alias_json report.links))
    (member (codes "command") (quoted (question_word (is_some why))))
    (member (codes "name") (name_json name) ∷ member (codes "type") (decimal c.args.heading.now.rtype.0) ∷ member (codes "moment") (decimal c.args.heading.now.moment)
    ∷ member (codes "verdict") (quoted (verdict_word report.verdict)) ∷ member (codes "status") (decimal c.args.heading.now.status) ∷ [])
    (reason ++ why_members why numbers)
    (s1 ∙ ap (λ b. codes "{" ++ parted true (verdict_members b name c.args.heading.now.rtype.0 c.args.heading.now.moment c.args.heading.now.status report.verdict))
    (sym (still_some (λ lines. lines.now) c.args.why))) s2 s3 s4 s5
