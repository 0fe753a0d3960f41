use Rattle.std.proofs.Common.{rules, ◌≡◌, ◌++◌, codes, string_bytes}
use Rattle.std.specs.Fmt.{decimal}
use Rattle.dnsv_evidence_texts.specs.Json.{octets_json}
use Rattle.dnsv_evidence_texts.proofs.ObjectLemmas.{entry_written}
use Rattle.dnsv_evidence_texts.proofs.json.todo.push_members.Goals as goal

pub returns : goal.returns
returns c =
    let entry = c.args.entry.now in
    let s1 : string_bytes c.write.new.self ≡ string_bytes c.args.text.now ++ (codes "{\"algorithm\":" ++ (decimal entry.algorithm.0 ++ codes ",\"key\":")) = c.in_ok-write.ensures.bytes in
    let s2 : string_bytes c.push_octets.new.text ≡ string_bytes c.write.new.self ++ octets_json entry.key = search rules in
    let s3 : string_bytes c.push_str.new.self ≡ string_bytes c.push_octets.new.text ++ codes ",\"data\":" = c.in_ok-push_str.ensures.bytes in
    let s4 : string_bytes c.push_signed.new.text ≡ string_bytes c.push_str.new.self ++ octets_json entry.signed_data = search rules in
    let s5 : string_bytes c.push_str-2.new.self ≡ string_bytes c.push_signed.new.text ++ codes ",\"signature\":" = c.in_ok-push_str-2.ensures.bytes in
    let s6 : string_bytes c.push_octets-2.new.text ≡ string_bytes c.push_str-2.new.self ++ octets_json entry.signature = search rules in
    let s7 : string_bytes c.push_str-3.new.self ≡ string_bytes c.push_octets-2.new.text ++ codes "}" = c.in_ok-push_str-3.ensures.bytes in
    entry_written (string_bytes c.args.text.now) (string_bytes c.write.new.self) (string_bytes c.push_octets.new.text) (string_bytes c.push_str.new.self)
    (string_bytes c.push_signed.new.text) (string_bytes c.push_str-2.new.self) (string_bytes c.push_octets-2.new.text) (string_bytes c.push_str-3.new.self)
    (decimal entry.algorithm.0) (octets_json entry.key) (octets_json entry.signed_data) (octets_json entry.signature) s1 s2 s3 s4 s5 s6 s7
