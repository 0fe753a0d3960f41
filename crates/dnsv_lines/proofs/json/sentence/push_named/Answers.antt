use Rattle.std.proofs.Common.{string_bytes}
use Rattle.dnsv_lines.specs.Json.{name_json}
use Rattle.dnsv_lines.proofs.MemberLemmas.{one_member}
use Rattle.dnsv_lines.proofs.json.sentence.push_named.Goals as goal

pub returns : goal.returns
returns c =
    one_member (string_bytes c.args.text.now) (string_bytes c.push_key.new.text) (string_bytes c.push_name.new.text) c.args.key.now
    (name_json c.args.name.now) c.in_ok-push_key.ensures c.in_ok-push_name.ensures
