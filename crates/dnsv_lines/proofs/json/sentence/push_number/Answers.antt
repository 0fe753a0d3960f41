use Rattle.std.proofs.Common.{string_bytes}
use Rattle.std.specs.Fmt.{decimal}
use Rattle.dnsv_lines.proofs.MemberLemmas.{one_member}
use Rattle.dnsv_lines.proofs.json.sentence.push_number.Goals as goal

pub returns : goal.returns
returns c =
    one_member (string_bytes c.args.text.now) (string_bytes c.push_key.new.text) (string_bytes c.write.new.self) c.args.key.now
    (decimal c.args.number) c.in_ok-push_key.ensures c.in_ok-write.ensures.bytes
