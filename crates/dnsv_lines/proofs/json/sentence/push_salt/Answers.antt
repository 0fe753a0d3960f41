use Rattle.std.proofs.Common.{string_bytes}
use Rattle.dnsv_lines.specs.Json.{quoted}
use Rattle.dnsv_lines.specs.Salt.{salt_text}
use Rattle.dnsv_lines.proofs.MemberLemmas.{one_member}
use Rattle.dnsv_lines.proofs.json.sentence.push_salt.Goals as goal

pub returns : goal.returns
returns c =
    one_member (string_bytes c.args.text.now) (string_bytes c.push_key.new.text) (string_bytes c.write.new.self) c.args.key.now
    (quoted (salt_text c.args.salt.now)) c.in_ok-push_key.ensures c.in_ok-write.ensures.bytes
