use Rattle.std.proofs.Common.{rules, ◌≡◌, ◌++◌, codes, string_bytes}
use Rattle.std.specs.Fmt.{decimal}
use Rattle.dnsv_lines.specs.Json.{name_json}
use Rattle.dnsv_evidence_texts.proofs.ObjectLemmas.{record_written}
use Rattle.dnsv_texts.proofs.json.checking.push_owner.Goals as goal

pub returns : goal.returns
returns c =
    let rrset = c.args.rrset.now in
    let s1 : string_bytes c.push_str.new.self ≡ string_bytes c.args.text.now ++ codes "{\"owner\":" = search rules in
    let s2 : string_bytes c.push_name.new.text ≡ string_bytes c.push_str.new.self ++ name_json rrset.owner = search rules in
    let s3 : string_bytes c.write.new.self ≡ string_bytes c.push_name.new.text ++ (codes ",\"type\":" ++ (decimal rrset.rtype ++ codes "}")) = search rules in
    record_written (string_bytes c.args.text.now) (string_bytes c.push_str.new.self) (string_bytes c.push_name.new.text) (string_bytes c.write.new.self)
    (name_json rrset.owner) (decimal rrset.rtype) s1 s2 s3
