use Rattle.std.proofs.Common.{codes, map, string_bytes}
use Rattle.dnsv_lines.specs.Json.{array}
use Rattle.std.specs.Option.{option_map}
use Rattle.dnsv_lines.proofs.MemberLemmas.{one_member}
use Rattle.dnsv_texts.specs.Why.{why_json}
use Rattle.dnsv_texts.proofs.json.explaining.push_explanation.Goals as goal

pub returns : goal.returns
returns c =
    one_member (string_bytes c.args.text.now) (string_bytes c.push_str.new.self) (string_bytes c.push_lines.new.text) (codes "why")
    (array (map (why_json (option_map (λ numbers. numbers.now) c.args.numbers)) c.args.lines.now)) c.in_ok-push_str.ensures.bytes c.in_ok-push_lines.ensures
