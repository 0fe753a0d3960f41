use Rattle.std.proofs.Common.{rules, ◌≡◌, ◌++◌, codes, false, string_bytes}
use Rattle.dnsv_texts.specs.Checking.{signature_members}
use Rattle.dnsv_lines.specs.Json.{name_json, parted}
use Rattle.dnsv_evidence_texts.proofs.ObjectLemmas.{alias_written}
use Rattle.dnsv_texts.proofs.json.checking.push_link.Goals as goal

pub returns : goal.returns
returns c =
    let link = c.args.link.now in
    let s1 : string_bytes c.push_str.new.self ≡ string_bytes c.args.text.now ++ codes "{\"name\":" = search rules in
    let s2 : string_bytes c.push_name.new.text ≡ string_bytes c.push_str.new.self ++ name_json link.name = search rules in
    let s3 : string_bytes c.push_signature.new.text ≡ string_bytes c.push_name.new.text ++ parted false (signature_members link.rrset link.signature) = search rules in
    let s4 : string_bytes c.push_str-2.new.self ≡ string_bytes c.push_signature.new.text ++ codes "}" = search rules in
    alias_written (string_bytes c.args.text.now) (string_bytes c.push_str.new.self) (string_bytes c.push_name.new.text) (string_bytes c.push_signature.new.text)
    (string_bytes c.push_str-2.new.self) (name_json link.name) (signature_members link.rrset link.signature) s1 s2 s3 s4
