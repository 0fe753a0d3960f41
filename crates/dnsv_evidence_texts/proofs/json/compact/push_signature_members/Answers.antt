use Rattle.std.proofs.Common.{rules, ◌≡◌, ◌++◌, ◌∙◌, ℕ, List, ap, codes, string_bytes}
use Rattle.std.specs.Fmt.{decimal}
use Rattle.dnsv_canonical.specs.SignedData.{signed_front}
use Rattle.dnsv_evidence_texts.specs.Json.{octets_json}
use Rattle.dnsv_evidence_texts.proofs.CompactTextLemmas.{signature_written}
use Rattle.dnsv_evidence_texts.proofs.json.compact.push_signature_members.Goals as goal

pub returns : goal.returns
returns c =
    let rrsig = c.args.rrsig.now in
    let s1 : string_bytes c.write.new.self ≡ string_bytes c.args.text.now ++ (codes "{\"signature\":" ++ (decimal c.args.number ++ codes ",\"front\":")) = c.in_ok-write.ensures.bytes in
    let s2 : string_bytes c.push_octets.new.text ≡ string_bytes c.write.new.self ++ octets_json (signed_front rrsig) =
    c.in_ok-push_octets.ensures ∙ ap (λ (front : List ℕ). string_bytes c.write.new.self ++ octets_json front) (c.deref.ensures.value ∙ c.in_ok-front.ensures) in
    let s3 : string_bytes c.push_str.new.self ≡ string_bytes c.push_octets.new.text ++ codes ",\"octets\":" = c.in_ok-push_str.ensures.bytes in
    let s4 : string_bytes c.push_octets-2.new.text ≡ string_bytes c.push_str.new.self ++ octets_json rrsig.signature = search rules in
    let s5 : string_bytes c.push_str-2.new.self ≡ string_bytes c.push_octets-2.new.text ++ codes "}" = c.in_ok-push_str-2.ensures.bytes in
    signature_written (string_bytes c.args.text.now) (string_bytes c.write.new.self) (string_bytes c.push_octets.new.text) (string_bytes c.push_str.new.self)
    (string_bytes c.push_octets-2.new.text) (string_bytes c.push_str-2.new.self) (decimal c.args.number) (octets_json (signed_front rrsig)) (octets_json rrsig.signature) s1 s2 s3 s4 s5
