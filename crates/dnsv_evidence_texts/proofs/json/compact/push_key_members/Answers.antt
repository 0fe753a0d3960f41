use Rattle.std.proofs.Common.{rules, ◌≡◌, ◌++◌, codes, string_bytes}
use Rattle.std.specs.Fmt.{decimal}
use Rattle.dnsv_evidence_texts.specs.Json.{octets_json}
use Rattle.dnsv_evidence_texts.proofs.CompactTextLemmas.{key_written}
use Rattle.dnsv_evidence_texts.proofs.json.compact.push_key_members.Goals as goal

pub returns : goal.returns
returns c =
    let key = c.args.key.now in
    let s1 : string_bytes c.write.new.self ≡ string_bytes c.args.text.now ++ (codes "{\"algorithm\":" ++ (decimal key.algorithm.0 ++ codes ",\"key\":")) = c.in_ok-write.ensures.bytes in
    let s2 : string_bytes c.push_octets.new.text ≡ string_bytes c.write.new.self ++ octets_json key.key = search rules in
    let s3 : string_bytes c.push_str.new.self ≡ string_bytes c.push_octets.new.text ++ codes "}" = c.in_ok-push_str.ensures.bytes in
    key_written (string_bytes c.args.text.now) (string_bytes c.write.new.self) (string_bytes c.push_octets.new.text) (string_bytes c.push_str.new.self)
    (decimal key.algorithm.0) (octets_json key.key) s1 s2 s3
