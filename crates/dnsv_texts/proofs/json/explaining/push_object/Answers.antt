use Rattle.std.proofs.Common.{string_bytes}
use Rattle.std.specs.Option.{option_map}
use Rattle.dnsv_lines.proofs.JsonLemmas.{one_written}
use Rattle.dnsv_texts.specs.Why.{why_json}
use Rattle.dnsv_texts.proofs.json.explaining.push_object.Goals as goal

pub returns-clause-text : goal.returns-clause-text
returns-clause-text c =
    one_written c.args.first.now (string_bytes c.args.text.now) (string_bytes c.push_comma.new.text) (string_bytes c.push_members.new.text)
    (why_json (option_map (λ numbers. numbers.now) c.args.numbers) c.args.line.now) c.in_ok-push_comma.ensures.text c.in_ok-push_members.ensures
