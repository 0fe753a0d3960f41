use Rattle.std.proofs.Common.{rules, ◌≡◌, ◌++◌, ◌∙◌, ℕ, List, ap, append_assoc, codes, false, map, string_bytes}
use Rattle.dnsv_texts.specs.Checking.{alias_json, reason_members}
use Rattle.dnsv_lines.specs.Json.{array, parted}
use Rattle.dnsv_texts.proofs.CheckingLemmas.{members_are}
use Rattle.dnsv_texts.proofs.told.told_members.Goals as goal

pub returns : goal.returns
returns c =
    let aliases = array (map alias_json c.args.links.now) in
    let others = parted false (reason_members c.args.rrsets.now c.args.verdict.now false) in
    let begun : string_bytes c.push_str.new.self ≡ codes ",\"aliases\":" = search rules in
    let named : string_bytes c.push_aliases.new.text ≡ string_bytes c.push_str.new.self ++ aliases = search rules in
    let front : string_bytes c.push_aliases.new.text ≡ codes ",\"aliases\":" ++ aliases = named ∙ ap (λ (s : List ℕ). s ++ aliases) begun in
    c.in_ok-push_reason.ensures
    ∙ ap (λ (each : List ℕ). string_bytes c.push_aliases.new.text ++ each) (members_are c.args.rrsets.now c.args.verdict.now false)
    ∙ ap (λ (s : List ℕ). s ++ others) front
    ∙ append_assoc (codes ",\"aliases\":") aliases others
