use Rattle.std.proofs.Common.{rules, ◌≡◌, ◌++◌, codes, map, refl, string_bytes, true}
use Rattle.std.specs.Fmt.{decimal}
use Rattle.dnsv_names.specs.Name.{lower_case, wire}
use Rattle.dnsv_lines.specs.Json.{array, parted}
use Rattle.dnsv_evidence_texts.specs.Compact.{signature_json}
use Rattle.dnsv_evidence_texts.specs.Json.{octets_json}
use Rattle.dnsv_evidence_texts.proofs.CompactTextLemmas.{rrset_written}
use Rattle.dnsv_evidence_texts.proofs.json.compact.push_rrset_members.Goals as goal

pub returns : goal.returns
returns c =
    let rrset = c.args.rrset.now in
    let rdata = c.in_ok-push_rdata.ensures in
    let signatures = c.in_ok-push_signatures.ensures in
    let s1 : string_bytes c.write.new.self ≡ string_bytes c.args.text.now ++ (codes "{\"rrset\":" ++ (decimal c.args.number ++ codes ",\"owner\":")) = c.in_ok-write.ensures.bytes in
    let s2 : string_bytes c.push_octets.new.text ≡ string_bytes c.write.new.self ++ octets_json (wire (lower_case rrset.owner)) = search rules in
    let s3 : string_bytes c.write-2.new.self ≡ string_bytes c.push_octets.new.text ++ (codes ",\"type\":" ++ (decimal rrset.rtype ++ codes ",\"rdata\":")) = search rules in
    let s4 : string_bytes c.push_rdata.new.text ≡ string_bytes c.write-2.new.self ++ array (map octets_json rdata.0) = rdata.2 in
    let s5 : string_bytes c.push_str.new.self ≡ string_bytes c.push_rdata.new.text ++ codes ",\"signatures\":[" = c.in_ok-push_str.ensures.bytes in
    let s6 : string_bytes c.push_signatures.new.text ≡ string_bytes c.push_str.new.self ++ parted true (map signature_json signatures.0) = signatures.2 in
    let s7 : string_bytes c.push_str-2.new.self ≡ string_bytes c.push_signatures.new.text ++ codes "]}" = c.in_ok-push_str-2.ensures.bytes in (
      record { number = c.args.number; owner = lower_case rrset.owner; rtype = rrset.rtype; rdata = rdata.0; signatures = signatures.0 },
      record { is_number = refl; owner = refl; rtype = refl; rdata = rdata.1; signatures = signatures.1 },
      rrset_written (string_bytes c.args.text.now) (string_bytes c.write.new.self) (string_bytes c.push_octets.new.text) (string_bytes c.write-2.new.self)
          (string_bytes c.push_rdata.new.text) (string_bytes c.push_str.new.self) (string_bytes c.push_signatures.new.text) (string_bytes c.push_str-2.new.self)
          (decimal c.args.number) (octets_json (wire (lower_case rrset.owner))) (decimal rrset.rtype) (array (map octets_json rdata.0)) (map signature_json signatures.0)
          s1 s2 s3 s4 s5 s6 s7,
    )
