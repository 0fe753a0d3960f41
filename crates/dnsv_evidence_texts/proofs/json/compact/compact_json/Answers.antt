use Rattle.std.proofs.Common.{rules, ◌≡◌, ◌++◌, ◌∷◌, codes, map, string_bytes, true}
use Rattle.dnsv_lines.specs.Json.{array, parted}
use Rattle.dnsv_evidence_texts.specs.Compact.{key_json, place_json, rrset_json}
use Rattle.dnsv_evidence_texts.specs.Moments.{moments_members}
use Rattle.dnsv_evidence_texts.proofs.CompactTextLemmas.{list_written}
use Rattle.dnsv_evidence_texts.proofs.MomentsLemmas.{of_list}
use Rattle.dnsv_evidence_texts.proofs.json.compact.compact_json.Goals as goal

pub returns : goal.returns
returns c =
    let list = c.args.list.now in
    let rrsets = c.in_ok-push_rrsets.ensures in
    let s0 : string_bytes c.push_list_of.new.text ≡ codes "{" ++ parted true (of_list ∷ moments_members c.args.moments) = search rules in
    let s1 : string_bytes c.push_str.new.self ≡ string_bytes c.push_list_of.new.text ++ codes ",\"keys\":" = c.in_ok-push_str.ensures.bytes in
    let s2 : string_bytes c.push_keys.new.text ≡ string_bytes c.push_str.new.self ++ array (map key_json list.keys) = search rules in
    let s3 : string_bytes c.push_str-2.new.self ≡ string_bytes c.push_keys.new.text ++ codes ",\"rrsets\":[" = c.in_ok-push_str-2.ensures.bytes in
    let s4 : string_bytes c.push_rrsets.new.text ≡ string_bytes c.push_str-2.new.self ++ parted true (map rrset_json rrsets.0) = rrsets.2 in
    let s5 : string_bytes c.push_str-3.new.self ≡ string_bytes c.push_rrsets.new.text ++ codes "],\"todo\":" = c.in_ok-push_str-3.ensures.bytes in
    let s6 : string_bytes c.push_places.new.text ≡ string_bytes c.push_str-3.new.self ++ array (map place_json list.todo) = search rules in
    let s7 : string_bytes c.push_str-4.new.self ≡ string_bytes c.push_places.new.text ++ codes "}\n" = c.in_ok-push_str-4.ensures.bytes in (
      rrsets.0,
      rrsets.1,
      list_written (string_bytes c.push_list_of.new.text) (string_bytes c.push_str.new.self) (string_bytes c.push_keys.new.text) (string_bytes c.push_str-2.new.self) (string_bytes c.push_rrsets.new.text)
          (string_bytes c.push_str-3.new.self) (string_bytes c.push_places.new.text) (string_bytes c.push_str-4.new.self)
          (array (map key_json list.keys)) (array (map place_json list.todo)) (moments_members c.args.moments) (map rrset_json rrsets.0) s0 s1 s2 s3 s4 s5 s6 s7,
    )
