use Rattle.std.proofs.Common.{rules, ◌≡◌, ◌++◌, codes, flat_map, refl, string_bytes}
use Rattle.std.specs.Fmt.{decimal}
use Rattle.dnsv_names.specs.Name.{lower_case, wire}
use Rattle.dnsv_evidence_texts.specs.Compact.{rdata_text, signature_line}
use Rattle.dnsv_evidence_texts.specs.Hex.{hex_text}
use Rattle.dnsv_evidence_texts.proofs.CompactTextLemmas.{lines_written}
use Rattle.dnsv_evidence_texts.proofs.compact.push_lines.Goals as goal

pub returns : goal.returns
returns c =
    let rrset = c.args.rrset.now in
    let rdata = c.in_ok-push_rdata.ensures in
    let signatures = c.in_ok-push_signatures.ensures in
    let s1 : string_bytes c.write.new.self ≡ string_bytes c.args.text.now ++ (codes "rrset " ++ (decimal c.args.number ++ codes " ")) = c.in_ok-write.ensures.bytes in
    let s2 : string_bytes c.push_hex_text.new.text ≡ string_bytes c.write.new.self ++ hex_text (wire (lower_case rrset.owner)) = search rules in
    let s3 : string_bytes c.write-2.new.self ≡ string_bytes c.push_hex_text.new.text ++ (codes " " ++ decimal rrset.rtype) = search rules in
    let s4 : string_bytes c.push_rdata.new.text ≡ string_bytes c.write-2.new.self ++ flat_map rdata_text rdata.0 = rdata.2 in
    let s5 : string_bytes c.push_str.new.self ≡ string_bytes c.push_rdata.new.text ++ codes "\n" = c.in_ok-push_str.ensures.bytes in
    let s6 : string_bytes c.push_signatures.new.text ≡ string_bytes c.push_str.new.self ++ flat_map (signature_line c.args.number) signatures.0 = signatures.2 in (
      record { number = c.args.number; owner = lower_case rrset.owner; rtype = rrset.rtype; rdata = rdata.0; signatures = signatures.0 },
      record { is_number = refl; owner = refl; rtype = refl; rdata = rdata.1; signatures = signatures.1 },
      lines_written (string_bytes c.args.text.now) (string_bytes c.write.new.self) (string_bytes c.push_hex_text.new.text) (string_bytes c.write-2.new.self)
          (string_bytes c.push_rdata.new.text) (string_bytes c.push_str.new.self) (string_bytes c.push_signatures.new.text)
          (decimal c.args.number) (hex_text (wire (lower_case rrset.owner))) (decimal rrset.rtype) (flat_map rdata_text rdata.0) (flat_map (signature_line c.args.number) signatures.0)
          s1 s2 s3 s4 s5 s6,
    )
